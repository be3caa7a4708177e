-- The contexts of the empty word and of a word longer by a letter, as the machine makes them. Assumes nothing.
use mathlib.Core.Bool.{Bool}
use mathlib.Core.List.{List, []}
use mathlib.Core.Path.{◌≡◌, refl, sym, ap, ap₂, ◌∙◌}
use Prim.Native.Nat.{ℕ, ◌*◌, ◌^◌, ◌<◌}
use lib.Bits.{and_comm}
use lib.ListN.{get_or}
use lib.Pow.{pow-lt}
use Rattle.bits.specs.Bits.{bit, weight, set_of}
use Rattle.bits.specs.Sets.{union, meet, moved, by_sets, by_rows}
use Rattle.bits.specs.Pairs.{pair, row, pairs}
use Rattle.bits.proofs.Bits.{bit_set_of}
use Rattle.bits.proofs.Sets.{meet_and}
use Rattle.bits.proofs.Pairs.{bit_row, row_pairs, pairs_cong}
use Rattle.bits.proofs.Moved.{moved_lt}
use Rattle.acceptance.specs.Contexts.{Context, idle, moved_by, through_by, longer}
use Rattle.acceptance.proofs.Passes.{unmarked_through}
use Rattle.automata.specs.Loaded.{cell, aut_of}
use Rattle.automata.specs.Repeated.{moved_rows, met, paths_over}
use Rattle.automata.specs.declared.Head.{Head}
use Rattle.automata.proofs.Members.{and_power}
use Rattle.automata.proofs.Rows.{row_zero, meet_lt}
use Rattle.automata.proofs.Moving.{moved_cong, none_union}

abbrev parts : ℕ → ℕ → Context
parts reach through = record { reach = reach; through = through }

-- a set moved by a letter of a loaded automaton: by the letter's row of the table
pub moved_by_letter : (n : ℕ) (t : List (List ℕ)) (head : Head) (s x : ℕ) → moved_by n (aut_of (cell t) head) s x ≡ moved n (by_rows (get_or t x [])) s
unfolding moved_by aut_of cell by_sets
moved_by_letter n t head s x = refl

-- ---- one letter more, whose pairs are `by`

module _ (n : ℕ) (cells : ℕ → ℕ → ℕ) (head : Head) (x by : ℕ) (steps : (p : ℕ) → p < n → row n by p ≡ cells x p) where
  -- a set moved by the pairs
  by_letter : (s : ℕ) → moved n (pair n by) s ≡ moved_by n (aut_of cells head) s x
  unfolding moved_by aut_of
  by_letter s = moved_cong n (pair n by) (λ p q. bit (cells x p) q) s (λ p q h l. sym (bit_row n by p q l) ∙ ap (λ (y : ℕ). bit y q) (steps p h))

  -- of the sets s, reached, and p, passed
  through_by_letter : (s p : ℕ) → union n (moved n (pair n by) p) (meet n (moved n (pair n by) s) (set_of (bit head.accepting) n)) ≡ through_by n (aut_of cells head) s p x
  unfolding aut_of
  through_by_letter s p =
      ap₂ (λ (t u : ℕ). union n t (meet n u (set_of (bit head.accepting) n))) (by_letter p) (by_letter s)
      ∙ sym (unmarked_through n (aut_of cells head) s p x (λ q q'. refl))

  pub longer_is : (c : Context) {reach before through a : ℕ} → reach ≡ moved_rows n by c.reach
      → before ≡ moved_rows n by c.through → a ≡ set_of (bit head.accepting) n
      → through ≡ met n before reach a
      → parts reach through ≡ longer n (aut_of cells head) c x
  unfolding longer
  longer_is c {reach} {before} {a = a} e f i g =
      ap₂ parts (e ∙ pairs_cong n (λ q. moved n (pair n by) (row n c.reach q)) (λ q. moved_by n (aut_of cells head) (row n c.reach q) x) (λ q h. by_letter (row n c.reach q)))
      (g
      ∙ pairs_cong n (λ q. union n (row n before q) (meet n (row n reach q) a)) (λ q. through_by n (aut_of cells head) (row n c.reach q) (row n c.through q) x)
      (λ q h. ap₂ (λ (p r : ℕ). union n p (meet n r a)) (at c.through f q h) (at c.reach e q h)
      ∙ ap (λ (y : ℕ). union n (moved n (pair n by) (row n c.through q)) (meet n (moved n (pair n by) (row n c.reach q)) y)) i
      ∙ through_by_letter (row n c.reach q) (row n c.through q)))
    where
      at : (d : ℕ) {y : ℕ} → y ≡ moved_rows n by d → (q : ℕ) → q < n → row n y q ≡ moved n (pair n by) (row n d q)
      at d i q h = ap (λ (z : ℕ). row n z q) i ∙ row_pairs n (λ q. moved n (pair n by) (row n d q)) q (λ q h. moved_lt n (pair n by) (row n d q)) h

-- ---- the empty word

pub idle_is : (n a : ℕ) {none none' reach through : ℕ} → none ≡ 0 → reach ≡ paths_over n none 0 → none' ≡ 0
    → through ≡ met n none' reach a → parts reach through ≡ idle n (bit a)
unfolding idle paths_over
idle_is n a {none} {none'} {reach} e f e' g =
    ap₂ parts itself
    (g
    ∙ pairs_cong n (λ q. union n (row n none' q) (meet n (row n reach q) a)) (λ q. weight (bit a q) * 2 ^ q)
    (λ q h. ap₂ (λ (x y : ℕ). union n x (meet n y a)) (ap (λ (z : ℕ). row n z q) e' ∙ row_zero n q) (at q h)
    ∙ none_union n (meet n (2 ^ q) a) (meet_lt n (2 ^ q) a) ∙ sym (meet_and n (2 ^ q) a (pow-lt h)) ∙ and_comm (2 ^ q) a ∙ and_power n a q h))
  where
    itself : reach ≡ pairs n (λ q. 2 ^ q)
    itself =
        f ∙ pairs_cong n (λ q. union n (row n none q) (2 ^ q)) (λ q. 2 ^ q)
        (λ q h. ap (λ (x : ℕ). union n x (2 ^ q)) (ap (λ (z : ℕ). row n z q) e ∙ row_zero n q) ∙ none_union n (2 ^ q) (pow-lt h))

    at : (q : ℕ) → q < n → row n reach q ≡ 2 ^ q
    at q h = ap (λ (z : ℕ). row n z q) itself ∙ row_pairs n (λ q. 2 ^ q) q (λ p l. pow-lt l) h

-- of the accepting states of a head, those below n
pub idle_below : (n a : ℕ) → idle n (bit (set_of (bit a) n)) ≡ idle n (bit a)
unfolding idle
idle_below n a =
    ap (parts (pairs n (λ q. 2 ^ q)))
    (pairs_cong n (λ q. weight (bit (set_of (bit a) n) q) * 2 ^ q) (λ q. weight (bit a q) * 2 ^ q)
    (λ q h. ap (λ (b : Bool). weight b * 2 ^ q) (bit_set_of (bit a) n q h)))
