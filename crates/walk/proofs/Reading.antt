-- The words that are read back along the parents are the words of the entries. Assumes nothing.
use mathlib.Core.Path.{◌≡◌, refl, sym, ap, ◌∙◌}
use mathlib.Core.Bool.{Bool, true, false}
use mathlib.Core.List.Memᴰ
use mathlib.Core.List.{List, [], ◌∷◌, ◌++◌, Memᴰ}
use Prim.Native.Nat.{ℕ, zero, suc, ◌≤◌, ◌<◌}
use native.Mathlib.Omega.{arith}
use lib.Dec.{eqb}
use borrow.Author.Tests.{eq-eqb, ne_eqb}
use Rattle.acceptance.specs.Lasso.{Word, Aut}
use Rattle.acceptance.specs.Contexts.{Small, Context, longer}
use Rattle.growth.specs.Numbered.{Bounded}
use Rattle.growth.specs.Nodes.{Node, seed, covers_by, children}
use Rattle.growth.specs.Tables.{contained, one_letter, period_nodes}
use Rattle.growth.proofs.Entries.{At, at_below}
use Rattle.growth.proofs.Linked.{Linked, starting, following}
use Rattle.growth.proofs.Rooms.{table_length}
use Rattle.stems.proofs.Packed as stems
use Rattle.stems.proofs.Packed.{stem_entries, packed_stems, root_node}
use Rattle.stems.proofs.Parents as parents
use Rattle.periods.proofs.Packed as periods
use Rattle.periods.proofs.Packed.{period_entries, packed_periods}
use Rattle.walk.specs.Words.{top_of, chain, stem_word, period_word}
use Rattle.covering.specs.Entries.{links_of}

pub chain_top : (links : Bool) (t : List ℕ) (f : ℕ) {i : ℕ} → i ≡ top_of links → chain links t f i ≡ []
unfolding chain
chain_top links t zero e = refl
chain_top links t (suc f) {i} e = rw (eq-eqb i (top_of links) e, chain)

-- a reading that is right at the first candidates, and that goes on from an entry to its parent, is right at every entry
module _ {L : Type 0} {first t : List (Node L)} (linked : (i : ℕ) (e : Node L) → At t i e → Linked first t i e) (back : ℕ → ℕ → Word)
    (starts : (f i : ℕ) (e : Node L) → At t i e → Memᴰ e first → back f i ≡ e.word)
    (follows : (f i : ℕ) (e : Node L) → At t i e → e.parent < i → back (suc f) i ≡ back f e.parent ++ (e.letter ∷ [])) where
  reads : (f : ℕ) {i : ℕ} {e : Node L} → i ≤ f → At t i e → Linked first t i e → back f i ≡ e.word
  reads zero {i} {e} l a (starting m) = starts 0 i e a m
  reads zero l a (following d k b w) = absurd (omega arith)
  reads (suc f) {i} {e} l a (starting m) = starts (suc f) i e a m
  reads (suc f) {i} {e} l a (following d k b w) =
      follows f i e a k ∙ ap (λ (v : Word). v ++ (e.letter ∷ [])) (reads f (omega arith) b (linked e.parent d b)) ∙ sym w

  read_back : (f i : ℕ) (e : Node L) → i ≤ f → At t i e → back f i ≡ e.word
  read_back f i e l a = reads f l a (linked i e a)

module _ {A B : Aut} (bound : Bounded 16 16 A) (small : Small 8 B) (largest : Bool) {S : ℕ} (few : S ≤ 4096) where
  t : List ℕ
  t = packed_stems A B largest S

  root_back : (f i : ℕ) (e : Node ℕ) → At (stem_entries A B largest S) i e → Memᴰ e (root_node A B ∷ []) → chain false t (suc f) i ≡ e.word
  unfolding seed
  root_back f i e a m = chain_top false t (suc f) (parents.only_root bound small largest S a (Memᴰ.eq_of_singleton m)) ∙ rw (Memᴰ.eq_of_singleton m)

  child_back : (f i : ℕ) (e : Node ℕ) → At (stem_entries A B largest S) i e → e.parent < i → chain false t (suc (suc f)) i ≡ chain false t (suc f) e.parent ++ (e.letter ∷ [])
  unfolding chain t
  child_back f i e a k = rw (ne_eqb i 0 (λ z. omega arith), parents.parent_at bound small largest S a few, stems.letter_at bound small largest S a)

  pub stem_word_lem : {i : ℕ} {e : Node ℕ} → At (stem_entries A B largest S) i e → stem_word (packed_stems A B largest S) i ≡ e.word
  unfolding t
  stem_word_lem {i} {e} a = read_back (λ i e a. parents.stem_linked bound small largest S a) (λ f i. chain false t (suc f) i) root_back child_back i i e (omega arith) a

module _ (A B : Aut) (s rows : ℕ) {P : ℕ} (short : P ≤ 65535) where
  ls : List ℕ
  ls = links_of (packed_periods A B s rows P)

  apart : (i : ℕ) (e : Node Context) → At (period_entries A B s rows P) i e → eqb i 65535 ≡ false
  unfolding period_nodes
  apart i e a =
      let m = table_length (covers_by (contained 8 rows)) (children 16 16 A (longer 8 B)) (one_letter 16 16 8 A B s) P in
      ne_eqb i 65535 (λ z. omega (arith, at_below a))

  first_back : (f j : ℕ) (e : Node Context) → At (period_entries A B s rows P) j e → Memᴰ e (one_letter 16 16 8 A B s) → chain true ls (suc f) j ≡ e.word
  unfolding chain ls
  first_back f j e a m =
      let (none, word) = periods.one_letter_lem A B s rows P m in
      rw (apart j e a, periods.parent_at A B s rows P a, periods.letter_at A B s rows P a, chain_top true ls f none, word)

  next_back : (f j : ℕ) (e : Node Context) → At (period_entries A B s rows P) j e → e.parent < j → chain true ls (suc (suc f)) j ≡ chain true ls (suc f) e.parent ++ (e.letter ∷ [])
  unfolding chain ls
  next_back f j e a k = rw (apart j e a, periods.parent_at A B s rows P a, periods.letter_at A B s rows P a)

  pub period_word_lem : {j : ℕ} {e : Node Context} → At (period_entries A B s rows P) j e → period_word (links_of (packed_periods A B s rows P)) j ≡ e.word
  unfolding ls
  period_word_lem {j} {e} a = read_back (λ j e a. periods.period_linked A B s rows P a) (λ f j. chain true ls (suc f) j) first_back next_back j j e (omega arith) a
