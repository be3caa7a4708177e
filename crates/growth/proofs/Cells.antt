-- What a context says on the rows of a set, as a number: for each of the k members q and each of the b states r that B has, a digit 0 (not reached),
-- 1 (reached) or 2 (reached through acceptance), to the base 3. Assumes nothing.
use mathlib.Core.Path.{◌≡◌, refl, sym, ap, ◌∙◌, subst}
use mathlib.Core.Bool.{Bool, true, false, false≢true}
use mathlib.Core.List.{List}
use Prim.Native.Nat.{ℕ, ◌+◌, ◌*◌, ◌/◌, ◌%◌, ◌^◌, ◌<◌}
use native.Mathlib.Nat.{zero-lt-suc}
use native.Mathlib.Omega.{arith}
use lib.Arith.{digits_lt, digits_div, digits_mod}
use lib.ListN.{length, get_or}
use Rattle.bits.specs.Bits.{digit, pack, bit, weight}
use Rattle.bits.specs.Sets.{SetIs}
use Rattle.bits.specs.Pairs.{row}
use Rattle.bits.proofs.Truth.{and_both}
use Rattle.bits.proofs.Digits.{pack_lt, digit_pack}
use Rattle.bits.proofs.Bits.{weight_lt}
use Rattle.acceptance.specs.Lasso.{Word, Aut, Reach, Through}
use Rattle.acceptance.specs.Contexts.{Context, Describes}
use Rattle.acceptance.proofs.Paths.{reach_append, forget}
use Rattle.acceptance.proofs.Preserve.{Within}
use Rattle.acceptance.proofs.Contexts.{within_contained}
use Rattle.growth.specs.Numbered.{Numbered}
use Rattle.growth.specs.Tables.{members, contained}
use Rattle.growth.proofs.Entries.{At, at_below, at_get_d}
use Rattle.growth.proofs.Members.{member_at}
use Rattle.growth.proofs.Nodes.{Counted}

-- what is reached through acceptance is reached, so equal digits say the same
reached_same : (a b a' b' : Bool) → (b' ≡ true → a' ≡ true) → weight a + weight b ≡ weight a' + weight b' → a ≡ true → a' ≡ true
unfolding weight
reached_same a b true b' f e t = refl
reached_same a b false true f e t = f refl
reached_same true b false false f e t = absurd (omega arith)
reached_same false b false false f e t = t

through_same : (a b a' b' : Bool) → (b ≡ true → a ≡ true) → weight a + weight b ≡ weight a' + weight b' → b ≡ true → b' ≡ true
unfolding weight
through_same a b a' true f e t = refl
through_same a false a' false f e t = t
through_same true true true false f e t = absurd (omega arith)
through_same true true false false f e t = absurd (omega arith)
through_same false true a' false f e t = absurd (false≢true (f refl))

-- the digit of the pair (q, r)
cell : ℕ → Context → ℕ → ℕ → ℕ
cell n c q r = weight (bit (row n c.reach q) r) + weight (bit (row n c.through q) r)

-- the rows are numbers of a list, the columns the names of the numbers below b
module _ (n : ℕ) (rows : List ℕ) (b : ℕ) (name : ℕ → ℕ) where
  cell_at : Context → ℕ → ℕ
  cell_at c i = cell n c (get_or rows (i / b) 0) (name (i % b))

  cells : Context → ℕ
  cells c = pack 3 (cell_at c) (length rows * b)

  cell_at_lt : (c : Context) (i : ℕ) → cell_at c i < 3
  unfolding cell_at cell
  cell_at_lt c i = omega (arith, weight_lt (bit (row n c.reach (get_or rows (i / b) 0)) (name (i % b))), weight_lt (bit (row n c.through (get_or rows (i / b) 0)) (name (i % b))))

  cells_lt : (c : Context) → cells c < 3 ^ (length rows * b)
  unfolding cells
  cells_lt c = pack_lt 3 (cell_at c) (length rows * b) (λ i l. cell_at_lt c i)

  digit_cell : (c : Context) {j q : ℕ} (r : ℕ) → At rows j q → r < b → digit 3 (cells c) (j * b + r) ≡ cell n c q (name r)
  unfolding cells cell_at
  digit_cell c {j} r a l =
      digit_pack 3 (zero-lt-suc 2) (cell_at c) (length rows * b) (j * b + r) (λ i m. cell_at_lt c i) (digits_lt (at_below a) l)
      ∙ rw (digits_div j l, digits_mod j l, at_get_d 0 a)

  same_cell : (c d : Context) {j q : ℕ} (r : ℕ) → At rows j q → r < b → cells c ≡ cells d → cell n c q (name r) ≡ cell n d q (name r)
  same_cell c d {j} r a l e = sym (digit_cell c r a l) ∙ ap (λ (x : ℕ). digit 3 x (j * b + r)) e ∙ digit_cell d r a l

module _ {n b s : ℕ} {B : Aut} (by : Numbered b B) {Rows : ℕ → Type 0} (rows : SetIs n s Rows) (comes : (q : ℕ) → Rows q → (w : Word) × Reach B B.start w q) where
  number : Context → ℕ
  number c = cells n (members n s) b by.name c

  -- two contexts with the same number have the same digit at each pair that a word joins
  same_at : (c d : Context) {v : Word} {q r : ℕ} → number c ≡ number d → Rows q → Reach B q v r → cell n c q r ≡ cell n d q r
  unfolding number
  same_at c d {q = q} {r = r} e g h =
      let (l, t) = rows.has q g in
      let (j, a) = member_at n s q l t in
      let k = reach_append (comes q g).1 h in
      subst (λ (x : ℕ). cell n c q x ≡ cell n d q x) (by.back k) (same_cell n (members n s) b by.name c d (by.place r) a (by.below k) e)

  -- so each word is within the other on the rows
  number_within : (c d : Context) {v v' : Word} → Describes n B c v → Describes n B d v' → number c ≡ number d → Within B Rows v v'
  unfolding cell
  number_within c d {v} {v'} says says' e = record { reach = λ g h. reached g h; through = λ g h. passed g h }
    where
      up : Context → ℕ → ℕ → Bool
      up c q r = bit (row n c.reach q) r

      over : Context → ℕ → ℕ → Bool
      over c q r = bit (row n c.through q) r

      reached : {q r : ℕ} → Rows q → Reach B q v r → Reach B q v' r
      reached {q} {r} g h =
          let l = (rows.has q g).0 in
          let (m, t) = (says.reaches q l).has r h in
          (says'.reaches q l).only r m
          (reached_same (up c q r) (over c q r) (up d q r) (over d q r) (λ k. ((says'.reaches q l).has r (forget ((says'.passes q l).only r m k))).1) (same_at c d e g h) t)

      passed : {q r : ℕ} → Rows q → Through B q v r → Through B q v' r
      passed {q} {r} g h =
          let l = (rows.has q g).0 in
          let (m, t) = (says.passes q l).has r h in
          (says'.passes q l).only r m
          (through_same (up c q r) (over c q r) (up d q r) (over d q r) (λ k. ((says.reaches q l).has r (forget ((says.passes q l).only r m k))).1) (same_at c d e g (forget h)) t)

  pub contexts_counted : Counted (Describes n B) (contained n s) (3 ^ (length (members n s) * b))
  unfolding number contained
  contexts_counted = record {
    number = number;
    below = λ c v says. cells_lt n (members n s) b by.name c;
    told = λ c d v v' says says' e.
        let (f, g) = within_contained rows says says' (number_within c d says says' e) in
        and_both _ _ f g;
  }
