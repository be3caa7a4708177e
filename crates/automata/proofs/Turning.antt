-- The states that a period leads around, and those from which paths lead into a set, put together state by state. Assumes nothing.
use mathlib.Core.Bool.{Bool, ◌&&◌}
use mathlib.Core.Path.{◌≡◌, refl, sym, ap, ◌∙◌}
use Prim.Native.Nat.{ℕ, ◌+◌, ◌*◌, ◌^◌, ◌<◌}
use native.Mathlib.Nat.{lt_trans}
use lib.Pow.{pow-lt}
use Rattle.bits.specs.Bits.{pack, bit, weight, set_of, any}
use Rattle.bits.specs.Sets.{union, meets, moves_to, moved}
use Rattle.bits.specs.Pairs.{pair, row}
use Rattle.bits.proofs.Quantifiers.{any_cong}
use Rattle.bits.proofs.Bits.{set_of_lt, set_of_cong}
use Rattle.bits.proofs.Operations.{weighed_lt}
use Rattle.bits.proofs.Sets.{union_or}
use Rattle.bits.proofs.Moved.{moved_lt, bit_moved}
use Rattle.bits.proofs.Pairs.{bit_row, row_pairs}
use Rattle.automata.specs.Repeated.{moved_rows, turning, leading_into}
use Rattle.automata.proofs.Members.{put_in}

-- ---- the states that have f, put together one by one

lt_more : (m q n : ℕ) → q < n → m < 2 ^ q → m < 2 ^ n
lt_more m q n h l = lt_trans l (pow-lt h)

pub gathered_none : (f : ℕ → Bool) → set_of f 0 ≡ 0
unfolding set_of pack
gathered_none f = refl

pub gathered_more : (n : ℕ) (f : ℕ → Bool) (q : ℕ) (b : Bool) → q < n → b ≡ f q → union n (set_of f q) (weight b * 2 ^ q) ≡ set_of f (q + 1)
gathered_more n f q b h e =
    rw e
    (sym (union_or n (set_of f q) (weight (f q) * 2 ^ q) (lt_more (set_of f q) q n h (set_of_lt f q)) (weighed_lt (f q) (pow-lt h)))
    ∙ put_in f q)

-- ---- the states that c pairs with themselves

unfoldable pub diagonal : ℕ → ℕ → ℕ → Bool
diagonal n c q = pair n c q q

pub diagonal_bit : (n c q : ℕ) → q < n → diagonal n c q ≡ bit (row n c q) q
unfolding diagonal
diagonal_bit n c q h = sym (bit_row n c q q h)

-- a pair of `through` and then paths lead from a state to itself
pub turning_is : (n paths through around p : ℕ) → around ≡ moved_rows n paths through → p ≡ n → set_of (diagonal n around) p ≡ turning n paths through
unfolding turning moves_to
turning_is n paths through around p e f =
    ap (set_of (diagonal n around)) f
    ∙ set_of_cong (diagonal n around) (λ p. any (λ q. pair n through p q && pair n paths q p) n) n
    (λ p h. diagonal_bit n around p h
    ∙ ap (λ (x : ℕ). bit x p)
    (ap (λ (x : ℕ). row n x p) e ∙ row_pairs n (λ q. moved n (pair n paths) (row n through q)) p (λ q l. moved_lt n (pair n paths) (row n through q)) h)
    ∙ bit_moved n (pair n paths) (row n through p) p h
    ∙ any_cong (λ q. bit (row n through p) q && pair n paths q p) (λ q. pair n through p q && pair n paths q p) n
    (λ q l. ap (λ (b : Bool). b && pair n paths q p) (bit_row n through p q l)))

-- ---- the states whose row meets x

unfoldable pub leads : ℕ → ℕ → ℕ → ℕ → Bool
leads n paths x q = meets n (row n paths q) x

pub leads_meets : (n paths x q : ℕ) → leads n paths x q ≡ meets n (row n paths q) x
unfolding leads
leads_meets n paths x q = refl

pub leading_all : (n paths x q : ℕ) → q ≡ n → set_of (leads n paths x) q ≡ leading_into n paths x
unfolding leads leading_into
leading_all n paths x q e = ap (set_of (leads n paths x)) e

-- what the loops over the states rest on
pub ruleset one_by_one = (gathered_none, gathered_more, diagonal_bit, turning_is, leads_meets, leading_all)
