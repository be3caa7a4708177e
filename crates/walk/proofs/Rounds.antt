-- The rounds of the walk are the entries of W at the states where a period can start. Assumes nothing.
use mathlib.Core.Path.{◌≡◌, sym, ◌∙◌}
use mathlib.Core.Logic.{◌⊎◌, inl, inr}
use mathlib.Core.Bool.{Bool, true, false, ◌&&◌, ◌||◌}
use mathlib.Core.List.{List, Memᴰ}
use Prim.Native.Nat.{ℕ}
use borrow.Author.Tests.{eqb-true, eq-eqb}
use lib.ListN.{length, get_or}
use lib.Dec.{eqb}
use Rattle.bits.specs.Bits.{any}
use Rattle.bits.specs.Sets.{SetIs}
use Rattle.bits.specs.Fields.{stem_state, stem_target}
use Rattle.bits.proofs.Truth.{and_both, and_right, or_left, or_right, or_cases}
use Rattle.bits.proofs.Quantifiers.{any_intro}
use Rattle.acceptance.specs.Lasso.{Aut, Reach, opens}
use Rattle.acceptance.specs.Contexts.{Small}
use Rattle.acceptance.proofs.Targets.{target_is}
use Rattle.growth.specs.Numbered.{Bounded}
use Rattle.growth.specs.Nodes.{Node}
use Rattle.growth.proofs.Entries.{At}
use Rattle.growth.specs.Steps.{steps}
use Rattle.growth.proofs.Steps.{mem_steps, steps_mem}
use Rattle.growth.proofs.Stems.{stems_true}
use Rattle.growth.proofs.Inclusion.{Opening}
use Rattle.stems.proofs.Packed as stems
use Rattle.stems.proofs.Packed.{stem_entries, packed_stems, stem_kind}
use Rattle.covering.specs.Entries.{Period}
use Rattle.periods.proofs.Packed.{packed_periods}
use Rattle.walk.specs.Walk.{opening, round_at, rounds_at, rounds}

-- a state where a period can start opens one
opening_true : {A : Aut} → Bounded 16 16 A → {s : ℕ} → Opening A s → opening A s ≡ true
unfolding opening opens
opening_true {A} bound {s} o = at (or_cases (A.final s) (A.mark s x q) o.accepts)
  where
    x : ℕ
    x = o.letter

    q : ℕ
    q = o.next

    marks : ℕ → Bool
    marks x = any (λ q. A.step s x q && A.mark s x q) 16

    at : (A.final s ≡ true) ⊎ (A.mark s x q ≡ true) → (A.final s || any marks 16) ≡ true
    at (inl f) = or_left (A.final s) (any marks 16) f
    at (inr m) =
        or_right (A.final s) (any marks 16)
        (any_intro marks 16 x (bound.letter_bound s x q o.goes)
        (any_intro (λ q. A.step s x q && A.mark s x q) 16 q (bound.small.step_small s x q o.goes) (and_both (A.step s x q) (A.mark s x q) o.goes m)))

-- the tables U and W, and the period table of s on some rows
abbrev pub table_u : Aut → Aut → ℕ → List ℕ
table_u A B S = packed_stems A B false S

abbrev pub table_w : Aut → Aut → ℕ → List ℕ
table_w A B S = packed_stems A B true S

abbrev pub table_v : Aut → Aut → (P s rows : ℕ) → List Period
table_v A B P s rows = packed_periods A B s rows P

-- the entry of W that a round is for
pub record Round (A B : Aut) (S : ℕ) (c : ℕ × ℕ) : Type 0 where
  pub index : ℕ
  pub entry : Node ℕ
  pub stands : At (stem_entries A B true S) index entry
  pub state : entry.state ≡ c.0
  pub load : entry.load ≡ c.1

module _ {A B : Aut} (bound : Bounded 16 16 A) (small : Small 8 B) (S : ℕ) where
  chosen : ℕ → ℕ → Bool
  chosen s k = opening A s && eqb (stem_state (get_or (table_w A B S) k 0)) s

  pub round_of : {c : ℕ × ℕ} → Memᴰ c (rounds A B (table_w A B S)) → Round A B S c
  unfolding rounds rounds_at round_at chosen steps
  round_of m =
      let (s, k, _, l, t, same) = steps_mem 16 (length (table_w A B S)) chosen (λ s k. (s, stem_target (get_or (table_w A B S) k 0))) m in
      let (w, a) = stems.stem_entry_lem bound small true S k l in
      rw same (record {
        index = k;
        entry = w;
        stands = a;
        state = sym (stems.state_at bound small true S a) ∙ eqb-true (stem_state (get_or (table_w A B S) k 0)) s (and_right (opening A s) (eqb (stem_state (get_or (table_w A B S) k 0)) s) t);
        load = sym (stems.target_at bound small true S a);
      })

  pub round_mem : {k s : ℕ} {w : Node ℕ} → At (stem_entries A B true S) k w → w.state ≡ s → Opening A s → Memᴰ (s, w.load) (rounds A B (table_w A B S))
  unfolding rounds rounds_at round_at chosen steps
  round_mem {k} {s} {w} a q o =
      rw (← (stems.target_at bound small true S a))
      (mem_steps 16 (length (table_w A B S)) chosen (λ s k. (s, stem_target (get_or (table_w A B S) k 0))) s k
      (rw q at ((stems.stem_fits bound small true S).each a).state_fits) (stems.stem_below bound small true S a)
      (and_both (opening A s) (eqb (stem_state (get_or (table_w A B S) k 0)) s) (opening_true bound o) (eq-eqb _ _ (stems.state_at bound small true S a ∙ q))))

  -- the word of a round's entry leads to its state and has its rows
  module _ {c : ℕ × ℕ} (r : Round A B S c) where
    pub round_reached : Reach A A.start r.entry.word c.0
    round_reached = rw r.state at ((stems_true bound small (stem_kind small true) S).each r.stands).ends

    pub round_rows : SetIs 8 c.1 (Reach B B.start r.entry.word)
    round_rows = rw (← r.load, ((stems_true bound small (stem_kind small true) S).each r.stands).says) (target_is small r.entry.word)
