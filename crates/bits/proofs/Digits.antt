-- Numbers by their digits, to any base: a number below c ^ n is known by its n digits. Assumes nothing.
use mathlib.Core.Logic.{⊎_elim}
use mathlib.Core.Path.{◌≡◌, refl, sym, ap, ap₂, ◌∙◌}
use Prim.Native.Nat.{ℕ, zero, suc, ◌+◌, ◌-◌, ◌*◌, ◌/◌, ◌%◌, ◌^◌, ◌≤◌, ◌<◌}
use native.Mathlib.Nat.{pow-zero, pow-suc, pow-succ', one-le-pow, pow-le-pow_right, div-div-eq-div-mul, div-eq_of_lt, mod-lt, mod-eq_of_lt, mod-mod_of_dvd, dvd-mul_left, eq-or-lt_of_le, le_of_suc-le-suc, lt_of_lt_of_le, zero-lt-suc}
use native.Mathlib.Omega.{arith}
use lib.Arith.{digits_lt, digits_div, digits_mod, mod-mul, lt-one}
use lib.Pow.{pow-add}
pub use Rattle.std.proofs.lemmas.Bool.{cases_lt as lt_or_ge}
use Rattle.bits.specs.Bits.{digit, pack}

-- ---- packed numbers

pub pack_lt : (c : ℕ) (d : ℕ → ℕ) (n : ℕ) → ((i : ℕ) → i < n → d i < c) → pack c d n < c ^ n
unfolding pack
pack_lt c d zero l = rw pow-zero (zero-lt-suc 0)
pack_lt c d (suc n) l = rw pow-succ' (digits_lt (l n (omega arith)) (pack_lt c d n (λ i h. l i (omega arith))))

-- equal digits, equal numbers
pub pack_cong : (c : ℕ) (d e : ℕ → ℕ) (n : ℕ) → ((i : ℕ) → i < n → d i ≡ e i) → pack c d n ≡ pack c e n
unfolding pack
pack_cong c d e zero same = refl
pack_cong c d e (suc n) same =
    ap₂ (λ (x y : ℕ). x * c ^ n + y) (same n (omega arith)) (pack_cong c d e n (λ i h. same i (omega arith)))

-- ---- digits

module _ (c : ℕ) (pos : 0 < c) where
  pub power_pos : (n : ℕ) → 0 < c ^ n
  power_pos n = one-le-pow n c pos

  pub digit_lt : (x i : ℕ) → digit c x i < c
  unfolding digit
  digit_lt x i = mod-lt (x / c ^ i) pos

  pub digit_shr : (x k i : ℕ) → digit c (x / c ^ k) i ≡ digit c x (k + i)
  unfolding digit
  digit_shr x k i = ap (λ (y : ℕ). y % c) (div-div-eq-div-mul x (c ^ k) (c ^ i) ∙ ap (λ (y : ℕ). x / y) (sym (pow-add c k i)))

  pub digit_mod : (x k i : ℕ) → i < k → digit c (x % c ^ k) i ≡ digit c x i
  unfolding digit
  digit_mod x k i h =
      ap (λ (y : ℕ). x % y / c ^ i % c) split
      ∙ ap (λ (y : ℕ). y / c ^ i % c) (mod-mul x (power_pos (suc m)) (power_pos i))
      ∙ ap (λ (y : ℕ). y % c) (digits_div (x / c ^ i % c ^ suc m) (mod-lt x (power_pos i)))
      ∙ mod-mod_of_dvd c (x / c ^ i) (rw pow-suc (dvd-mul_left c (c ^ m)))
    where
      m : ℕ
      m = k - suc i

      place : k ≡ suc m + i
      place = omega arith

      split : c ^ k ≡ c ^ suc m * c ^ i
      split = ap (λ (e : ℕ). c ^ e) place ∙ pow-add c (suc m) i

  pub digit_above : (x k i : ℕ) → x < c ^ k → k ≤ i → digit c x i ≡ 0
  unfolding digit
  digit_above x k i h l = ap (λ (y : ℕ). y % c) (div-eq_of_lt (lt_of_lt_of_le h (pow-le-pow_right pos l))) ∙ mod-eq_of_lt pos

  -- a high part, and the k digits below it
  digit_low : (hi k lo i : ℕ) → lo < c ^ k → i < k → digit c (hi * c ^ k + lo) i ≡ digit c lo i
  digit_low hi k lo i l h = sym (digit_mod (hi * c ^ k + lo) k i h) ∙ ap (λ (y : ℕ). digit c y i) (digits_mod hi l)

  pub digit_pack : (d : ℕ → ℕ) (n i : ℕ) → ((j : ℕ) → j < n → d j < c) → i < n → digit c (pack c d n) i ≡ d i
  unfolding digit pack
  digit_pack d zero i l h = absurd (omega arith)
  digit_pack d (suc n) i l h = ⊎_elim top (λ m. digit_low (d n) n (pack c d n) i fits m ∙ digit_pack d n i below m) (eq-or-lt_of_le (le_of_suc-le-suc h))
    where
      below : (j : ℕ) → j < n → d j < c
      below j m = l j (omega arith)

      fits : pack c d n < c ^ n
      fits = pack_lt c d n below

      top : i ≡ n → digit c (d n * c ^ n + pack c d n) i ≡ d i
      top e =
          ap (digit c (d n * c ^ n + pack c d n)) e ∙ ap (λ (y : ℕ). y % c) (digits_div (d n) fits) ∙ mod-eq_of_lt (l n (omega arith))
          ∙ ap d (sym e)

  -- the n low digits of x, packed again
  pack_digits : (x n : ℕ) → pack c (digit c x) n ≡ x % c ^ n
  unfolding digit pack
  pack_digits x zero = rw pow-zero (sym (lt-one (mod-lt x (zero-lt-suc 0))))
  pack_digits x (suc n) =
      ap (λ (y : ℕ). x / c ^ n % c * c ^ n + y) (pack_digits x n) ∙ sym (mod-mul x pos (power_pos n))
      ∙ ap (λ (y : ℕ). x % y) (sym (pow-succ' c n))

  -- a number below c ^ n is known by its digits
  pub pack_is : (d : ℕ → ℕ) (n x : ℕ) → x < c ^ n → ((i : ℕ) → i < n → digit c x i ≡ d i) → x ≡ pack c d n
  pack_is d n x l same = sym (mod-eq_of_lt l) ∙ sym (pack_digits x n) ∙ pack_cong c (digit c x) d n same
