-- Tables of words of A are bases, and have at most as many entries as their loads can be told apart by numbers for each state. Assumes nothing.
--     Ends w q          w leads to q
--     Says c w          c is the load of w
--     Less v w          v stands for w
use mathlib.Core.Path.{◌≡◌, refl, sym, ap, ◌∙◌}
use mathlib.Core.Bool.{Bool, true}
use mathlib.Core.List.{List, [], ◌∷◌, ◌++◌, Memᴰ}
use Prim.Native.Nat.{ℕ, ◌+◌, ◌*◌, ◌/◌, ◌%◌, ◌≤◌, ◌<◌}
use lib.Arith.{digits_lt, digits_div, digits_mod}
use borrow.Author.Tests.{eqb-true, eq-eqb}
use lib.ListN.{length}
use lib.Dec.{eqb}
use Rattle.bits.proofs.Truth.{and_both, and_left, and_right}
use Rattle.acceptance.specs.Lasso.{Word, Aut, Reach}
use Rattle.growth.specs.Grow.{Outcome, ended, full, entries, Complete}
use Rattle.growth.specs.Numbered.{Numbered, Bounded}
use Rattle.growth.specs.Nodes.{Node, child, children, covers_by, node_table}
use Rattle.growth.proofs.Entries.{At, Each}
use Rattle.growth.proofs.Grown.{tables, tabled}
use Rattle.growth.proofs.Covered.{covering}
use Rattle.growth.proofs.Closed.{Covers, Closed, table_closed}
use Rattle.growth.proofs.Built.{Inherited, built_entries, table_built, table_good, built_length, never_full}
use Rattle.growth.proofs.Steps.{mem_steps, steps_mem}
use Rattle.growth.proofs.Numbered.{same_state}
use Rattle.growth.proofs.Basis.{Entry, follow}

-- what an entry's fields say of its word
pub record True {L : Type 0} (Ends : Word → ℕ → Type 0) (Says : L → Word → Type 0) (e : Node L) : Type 0 where
  pub ends : Ends e.word e.state
  pub says : Says e.load e.word

-- The laws of a kind of entries: what makes their tables bases.
pub record Kind (A : Aut) {L : Type 0} (advance : L → ℕ → L) (test : L → L → Bool) (Ends : Word → ℕ → Type 0) (Says : L → Word → Type 0) (Less : Word → Word → Type 0) : Type 0 where
  pub ends_snoc : (w : Word) (p x q : ℕ) → Ends w p → A.step p x q ≡ true → Ends (w ++ (x ∷ [])) q
  pub says_snoc : (c : L) (w : Word) (x : ℕ) → Says c w → Says (advance c x) (w ++ (x ∷ []))
  pub test_self : (c : L) → test c c ≡ true
  pub ordered : (c d : L) (v w : Word) → Says c v → Says d w → test c d ≡ true → Less v w
  pub trans : (a b c : Word) → Less a b → Less b c → Less a c
  pub extend : (a b : Word) (x : ℕ) → Less a b → Less (a ++ (x ∷ [])) (b ++ (x ∷ []))

-- numbers below K that tell the loads apart
pub record Counted {L : Type 0} (Says : L → Word → Type 0) (test : L → L → Bool) (K : ℕ) : Type 0 where
  pub number : L → ℕ
  pub below : (c : L) (w : Word) → Says c w → number c < K
  pub told : (c d : L) (v w : Word) → Says c v → Says d w → number c ≡ number d → test c d ≡ true

module _ {A : Aut} {L : Type 0} {advance : L → ℕ → L} {test : L → L → Bool} {Ends : Word → ℕ → Type 0} {Says : L → Word → Type 0} {Less : Word → Word → Type 0} where
  -- the test and the order turned round
  pub turned : Kind A advance test Ends Says Less → Kind A advance (λ c d. test d c) Ends Says (λ v w. Less w v)
  turned kind = record {
    ends_snoc = kind.ends_snoc;
    says_snoc = kind.says_snoc;
    test_self = kind.test_self;
    ordered = λ c d v w e f t. kind.ordered d c w v f e t;
    trans = λ a b c f g. kind.trans c b a g f;
    extend = λ a b x. kind.extend b a x;
  }

  module _ (kind : Kind A advance test Ends Says Less) where
    pub covers_self : (c : Node L) → covers_by test c c ≡ true
    unfolding covers_by
    covers_self c = and_both (eqb c.state c.state) (test c.load c.load) (eq-eqb c.state c.state refl) (kind.test_self c.load)

    true_child : (i : ℕ) (e : Node L) (x q : ℕ) → True Ends Says e → A.step e.state x q ≡ true → True Ends Says (child advance i e x q)
    unfolding child
    true_child i e x q h t = record {
      ends = kind.ends_snoc e.word e.state x q h.ends t;
      says = kind.says_snoc e.load e.word x h.says;
    }

    pub true_children : (letters states i : ℕ) (e c : Node L) → True Ends Says e → Memᴰ c (children letters states A advance i e) → True Ends Says c
    unfolding children
    true_children letters states i e c h m =
        let (x, q, _, _, t, same) = steps_mem letters states (λ x q. A.step e.state x q) (child advance i e) m in
        rw same (true_child i e x q h t)

    module _ {letters states : ℕ} (bound : Bounded letters states A) {first : List (Node L)} (true_first : (c : Node L) → Memᴰ c first → True Ends Says c) (room : ℕ) where
      inherited : Inherited (True Ends Says) (children letters states A advance) first
      inherited = record { good_first = true_first; good_next = true_children letters states }

      -- every entry is true, of a table that lacks room too
      pub true_entries : Each (True Ends Says) (entries (node_table letters states A advance test room first))
      true_entries = table_good (covers_by test) inherited room

      -- ---- a table that ended is a basis

      module _ {t : List (Node L)} (is : node_table letters states A advance test room first ≡ ended t) where
        -- an entry that covers a candidate is at its state, and its word is below
        covers_below : {i : ℕ} {d c : Node L} → At t i d → True Ends Says c → covers_by test d c ≡ true → Entry Less t c.state c.word
        unfolding covers_by
        covers_below {i} {d} {c} a h e = record {
          index = i;
          node = d;
          stands = a;
          at_state = eqb-true d.state c.state (and_left (eqb d.state c.state) (test d.load c.load) e);
          below = kind.ordered d.load c.load d.word c.word ((rw is at true_entries).each a).says h.says
              (and_right (eqb d.state c.state) (test d.load c.load) e);
        }

        closed : Closed (covers_by test) (children letters states A advance) t × Covers (covers_by test) t first
        closed = table_closed (covers_by test) covers_self (children letters states A advance) (tabled (covers_by test) (children letters states A advance) room first is)

        answered : (i : ℕ) (e : Node L) (x q : ℕ) → At t i e → A.step e.state x q ≡ true → Entry Less t q (e.word ++ (x ∷ []))
        unfolding children child
        answered i e x q a s =
            let m = mem_steps letters states (λ x q. A.step e.state x q) (child advance i e) x q (bound.letter_bound e.state x q s) (bound.small.step_small e.state x q s) s in
            let (_, d, b, k) = covering (covers_by test) t (child advance i e x q) ((closed.0.at_entry a).covered_all m) in
            covers_below b (true_child i e x q ((rw is at true_entries).each a) s) k

        -- every path of A on from a first candidate has an entry at its end
        pub basis : {c : Node L} {w : Word} {s : ℕ} → Memᴰ c first → Reach A c.state w s → Entry Less t s (c.word ++ w)
        basis {c} m h =
            let (_, d, b, k) = covering (covers_by test) t c (closed.1.covered_all m) in
            follow kind.trans kind.extend answered (covers_below b (true_first c m) k) h

      -- ---- at most K entries for each state

      module _ {a K : ℕ} (by : Numbered a A) (comes : (w : Word) (q : ℕ) → Ends w q → (u : Word) × Reach A A.start u q) (loads : Counted Says test K) where
        key : Node L → ℕ
        key e = by.place e.state * K + loads.number e.load

        key_small : (e : Node L) → True Ends Says e → key e < a * K
        unfolding key
        key_small e h = digits_lt (by.below (comes e.word e.state h.ends).1) (loads.below e.load e.word h.says)

        key_told : (d e : Node L) → True Ends Says d → True Ends Says e → key d ≡ key e → covers_by test d e ≡ true
        unfolding key covers_by
        key_told d e h k q =
            let dl = loads.below d.load d.word h.says in
            let el = loads.below e.load e.word k.says in
            let place : by.place d.state ≡ by.place e.state = sym (digits_div (by.place d.state) dl) ∙ ap (λ (x : ℕ). x / K) q ∙ digits_div (by.place e.state) el in
            let number : loads.number d.load ≡ loads.number e.load = sym (digits_mod (by.place d.state) dl) ∙ ap (λ (x : ℕ). x % K) q ∙ digits_mod (by.place e.state) el in
            and_both (eqb d.state e.state) (test d.load e.load)
            (eq-eqb d.state e.state (same_state by (comes d.word d.state h.ends).1 (comes e.word e.state k.ends).1 place))
            (loads.told d.load e.load d.word e.word h.says k.says number)

        pub fits : length (entries (node_table letters states A advance test room first)) ≤ a * K
        fits = built_length inherited key (a * K) key_small key_told (entries (node_table letters states A advance test room first))
            (built_entries (table_built (tables (covers_by test) (children letters states A advance) room first)))

        -- that is room enough
        pub ends_in_room : a * K ≤ room → Complete (node_table letters states A advance test room first)
        ends_in_room l = at (node_table letters states A advance test room first) refl
          where
            at : (o : Outcome (Node L)) → node_table letters states A advance test room first ≡ o → Complete o
            at (ended t) is = refl
            at (full t) is = absurd (never_full inherited key (a * K) key_small key_told l (table_built (tabled (covers_by test) (children letters states A advance) room first is)))
