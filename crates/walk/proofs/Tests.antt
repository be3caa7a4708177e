-- The pairs that the walk tests are the lassos of the argument, and its test of a pair is acceptance by B. Assumes nothing.
use mathlib.Core.Path.{◌≡◌, refl, sym, ap₂, ◌∙◌, subst}
use mathlib.Core.Logic.{◌↔◌}
use mathlib.Core.Bool.{Bool, true, false, ◌&&◌}
use mathlib.Core.List.{List, [], ◌∷◌, map, Memᴰ}
use Prim.Native.Nat.{ℕ, zero, suc, ◌+◌, ◌*◌, ◌≤◌, ◌<◌}
use native.Mathlib.Omega.{arith}
use borrow.Author.Tests.{eqb-true, eq-eqb}
use lib.ListN.{length, get_or, length-map}
use lib.Dec.{eqb}
use Rattle.bits.specs.Sets.{subset, meets}
use Rattle.bits.specs.Fields.{stem_state, stem_target, link_state}
use Rattle.bits.proofs.Truth.{and_both, and_left, and_right}
use Rattle.acceptance.specs.Lasso.{Word, Aut, Accepted}
use Rattle.acceptance.specs.Contexts.{Small, Context}
use Rattle.growth.specs.Numbered.{Bounded}
use Rattle.growth.specs.Nodes.{Node}
use Rattle.growth.specs.Steps.{steps}
use Rattle.growth.proofs.Entries.{At}
use Rattle.growth.proofs.Steps.{mem_steps, steps_mem}
use Rattle.growth.proofs.Periods.{periods_true}
use Rattle.growth.proofs.Inclusion.{opened, Test, test_target, test_context}
use Rattle.automata.specs.Repeated.{repeated}
use Rattle.automata.proofs.Accepting.{accepted}
use Rattle.stems.specs.Stems.{target_covers}
use Rattle.stems.proofs.Packed as stems
use Rattle.stems.proofs.Packed.{stem_entries}
use Rattle.covering.specs.Entries.{Period, links_of, contexts_of, context_in}
use Rattle.periods.proofs.Packed as periods
use Rattle.periods.proofs.Packed.{period_entries, link_at}
use Rattle.walk.specs.Words.{stem_word, period_word}
use Rattle.walk.specs.Walk.{rounds, fits, pairs_of, accepts}
use Rattle.walk.proofs.Reading.{stem_word_lem, period_word_lem}
use Rattle.walk.proofs.Rounds.{table_u, table_w, table_v, round_mem, round_rows}

-- a pair that is made of the numbers below two bounds where a test allows it
pair_of : {m n : ℕ} (test : ℕ → ℕ → Bool) {c : ℕ × ℕ} → Memᴰ c (steps m n test (λ i j. (i, j))) → (c.0 < m) × (c.1 < n) × (test c.0 c.1 ≡ true)
pair_of {m} {n} test h = let (i, j, l, k, t, same) = steps_mem m n test (λ i j. (i, j)) h in rw same (l, k, t)

-- the context at j, as it is found among all and among the numbers of all
context_held : (v : List Period) (j : ℕ) → context_in (contexts_of v) j ≡ get_or (map (λ (e : Period). e.context) v) j (record { reach = 0; through = 0 })
unfolding contexts_of
context_held [] j = refl
context_held (e ∷ v) zero = refl
context_held (e ∷ v) (suc j) =
    let even : 2 * suc j ≡ suc (suc (2 * j)) = omega arith in
    let odd : 2 * suc j + 1 ≡ suc (suc (2 * j + 1)) = omega arith in
    ap₂ (λ (a b : ℕ). record { reach = get_or (contexts_of (e ∷ v)) a 0; through = get_or (contexts_of (e ∷ v)) b 0 }) even odd ∙ context_held v j

module _ {A B : Aut} (bound : Bounded 16 16 A) (small : Small 8 B) (S : ℕ) where
  module _ (P s rows : ℕ) where
    stem_is : ℕ → Bool
    stem_is i = eqb (stem_state (get_or (table_u A B S) i 0)) s

    stem_inside : ℕ → Bool
    stem_inside i = subset 8 (stem_target (get_or (table_u A B S) i 0)) rows

    period_is : ℕ → Bool
    period_is j = eqb (link_state (link_at (table_v A B P s rows) j)) s

    pair_is : ℕ → ℕ → Bool
    pair_is i j = (stem_is i && stem_inside i) && period_is j

    -- the pair of an entry of U and one of the period table
    module _ {i j : ℕ} {d : Node ℕ} {e : Node Context} (a : At (stem_entries A B false S) i d) (b : At (period_entries A B s rows P) j e) where
      pair_mem : d.state ≡ s → subset 8 d.load rows ≡ true → e.state ≡ s → Memᴰ (i, j) (pairs_of (table_u A B S) s rows (links_of (table_v A B P s rows)))
      unfolding pairs_of fits pair_is stem_is stem_inside period_is
      pair_mem p inside q =
          mem_steps (length (table_u A B S)) (length (links_of (table_v A B P s rows))) pair_is (λ i j. (i, j)) i j (stems.stem_below bound small false S a)
          (omega (arith, periods.period_below A B s rows P b, length-map (table_v A B P s rows) (λ (q : Period). q.link)))
          (and_both (stem_is i && stem_inside i) (period_is j)
          (and_both (stem_is i) (stem_inside i) (eq-eqb _ _ (stems.state_at bound small false S a ∙ p)) (rw (stems.target_at bound small false S a) inside))
          (eq-eqb _ _ (periods.state_at A B s rows P b ∙ q)))

      accepts_is : accepts (table_u A B S) (contexts_of (table_v A B P s rows)) i j ≡ meets 8 d.load (repeated 8 e.load)
      unfolding accepts
      accepts_is = rw (stems.target_at bound small false S a, context_held (table_v A B P s rows) j, periods.context_at A B s rows P b (record { reach = 0; through = 0 }))

  module _ (P : ℕ) where
    -- what the walk's test of a lasso answers
    pub judged : {u v : Word} (t : Test 16 16 8 A B S P u v)
        → (accepts (table_u A B S) (contexts_of (table_v A B P t.state t.w_in.node.load)) t.u_in.index t.v_in.index ≡ true) ↔ Accepted B u v
    unfolding target_covers
    judged {u} t =
        rw (accepts_is P t.state t.w_in.node.load t.u_in.stands t.v_in.stands, test_target bound small S P t) (accepted small (test_context bound small S P t) u)

    -- it comes to every lasso of the argument
    pub test_round : {u v : Word} (t : Test 16 16 8 A B S P u v) → Memᴰ (t.state, t.w_in.node.load) (rounds A B (table_w A B S))
    unfolding target_covers
    test_round t = round_mem bound small S t.w_in.stands t.w_in.at_state t.opening

    pub test_pair : {u v : Word} (t : Test 16 16 8 A B S P u v)
        → Memᴰ (t.u_in.index, t.v_in.index) (pairs_of (table_u A B S) t.state t.w_in.node.load (links_of (table_v A B P t.state t.w_in.node.load)))
    unfolding target_covers
    test_pair t = pair_mem P t.state t.w_in.node.load t.u_in.stands t.v_in.stands t.u_in.at_state t.inside t.v_in.at_state

    -- and to no other
    module _ (few : S ≤ 4096) (short : P ≤ 65535) {s : ℕ} {k : ℕ} {w : Node ℕ} (at-w : At (stem_entries A B true S) k w) (state : w.state ≡ s) {i j : ℕ}
        (m : Memᴰ (i, j) (pairs_of (table_u A B S) s w.load (links_of (table_v A B P s w.load)))) where
      pub pair_test : Test 16 16 8 A B S P (stem_word (table_u A B S) i) (period_word (links_of (table_v A B P s w.load)) j)
      unfolding target_covers pairs_of fits pair_is stem_is stem_inside period_is
      pair_test =
          let rows = w.load in
          let (i-low, j-low, holds) = pair_of (pair_is P s rows) m in
          let (d, a) = stems.stem_entry_lem bound small false S i i-low in
          let (e, b) = periods.period_entry A B s rows P j (omega (arith, length-map (table_v A B P s rows) (λ (q : Period). q.link))) in
          let in_u = and_left (stem_is P s rows i && stem_inside P s rows i) (period_is P s rows j) holds in
          let rows_are = round_rows bound small S {c = (s, w.load)} (record { index = k; entry = w; stands = at-w; state = state; load = refl }) in
          let in-v = and_right (stem_is P s rows i && stem_inside P s rows i) (period_is P s rows j) holds in
          record {
            state = s;
            opening = opened ((periods_true bound small s rows_are P).each b).ends;
            w = w.word;
            w_in = record { index = k; node = w; stands = at-w; at_state = state; its_word = refl };
            u_in = record {
              index = i;
              node = d;
              stands = a;
              at_state = sym (stems.state_at bound small false S a) ∙ eqb-true _ s (and_left (stem_is P s rows i) (stem_inside P s rows i) in_u);
              its_word = sym (stem_word_lem bound small false few a);
            };
            inside = subst (λ (x : ℕ). subset 8 x rows ≡ true) (stems.target_at bound small false S a) (and_right (stem_is P s rows i) (stem_inside P s rows i) in_u);
            v_in = record {
              index = j;
              node = e;
              stands = b;
              at_state = sym (periods.state_at A B s rows P b) ∙ eqb-true _ s in-v;
              its_word = sym (period_word_lem A B s rows short b);
            };
          }

      pub pair_judged : (accepts (table_u A B S) (contexts_of (table_v A B P s w.load)) i j ≡ true) ↔ Accepted B (stem_word (table_u A B S) i) (period_word (links_of (table_v A B P s w.load)) j)
      unfolding pair_test
      pair_judged = judged pair_test
