-- Covering by masks is containment on the rows, and one number may decide it. Assumes nothing.
use mathlib.Core.Path.{◌≡◌, refl, sym, ap, ap₂, ◌∙◌}
use mathlib.Core.Bool.{Bool, true, false, not, ◌&&◌}
use Prim.Native.Nat.{ℕ, ◌-◌, ◌^◌, ◌<◌}
use native.Mathlib.Omega.{arith}
use lib.Bits.{bit_and, bit_or, bit_xor, and_le_l, and_le_r, or_add_and, xor_add_and, xor_self}
use lib.Dec.{eqb}
use borrow.Author.Tests.{eqb-true, eqb-false, eq-eqb, ne_eqb}
use Rattle.bits.specs.Bits.{bit}
use Rattle.bits.proofs.Truth.{and_left, and_right}
use Rattle.bits.proofs.Bits.{bit_zero, bit_ext}
use Rattle.bits.proofs.Operations.{bit_and_lem, bit_not}
use Rattle.bits.specs.Fields.{link_state}
use Rattle.bits.specs.Pairs.{rows_of}
use Rattle.bits.proofs.Contained.{contained_apart}
use Rattle.acceptance.specs.Contexts.{Context}
use Rattle.acceptance.proofs.Contexts.{Fits}
use Rattle.growth.specs.Tables.{contained}
use Rattle.covering.specs.Entries.{Period, period_covers}
use Rattle.covering.specs.Masks.{lacking, having, apart, holds, covers}

-- ---- what covers covers

-- of the pairs z: what a has is in b, and what b has is in what m leaves out
apart_trans : (a b z m : ℕ) → b < 2 ^ 64 → m < 2 ^ 64 → bit_and a (bit_and z (2 ^ 64 - 1 - b)) ≡ 0 → bit_and b (bit_and z m) ≡ 0 → bit_and a (bit_and z m) ≡ 0
apart_trans a b z m small low e f =
    bit_ext 64 (bit_and a (bit_and z m)) 0 (omega (arith, and_le_r a (bit_and z m), and_le_r z m)) (omega arith) same
  where
    none : (A B Z M : Bool) → (A && (Z && not B)) ≡ false → (B && (Z && M)) ≡ false → (A && (Z && M)) ≡ false
    none true true Z M g h = h
    none true false Z true g h = g
    none true false true false g h = refl
    none true false false false g h = refl
    none false B Z M g h = refl

    same : (i : ℕ) → i < 64 → bit (bit_and a (bit_and z m)) i ≡ bit 0 i
    same i l =
        bit_and_lem a (bit_and z m) i ∙ ap (λ (r : Bool). bit a i && r) (bit_and_lem z m i)
        ∙ none (bit a i) (bit b i) (bit z i) (bit m i)
        (ap (λ (r : Bool). bit a i && (bit z i && r)) (sym (bit_not b 64 i small l)) ∙ ap (λ (r : Bool). bit a i && r) (sym (bit_and_lem z (2 ^ 64 - 1 - b) i)) ∙ sym (bit_and_lem a (bit_and z (2 ^ 64 - 1 - b)) i) ∙ ap (λ (x : ℕ). bit x i) e ∙ bit_zero i)
        (ap (λ (r : Bool). bit b i && r) (sym (bit_and_lem z m i)) ∙ sym (bit_and_lem b (bit_and z m) i) ∙ ap (λ (x : ℕ). bit x i) f ∙ bit_zero i)
        ∙ sym (bit_zero i)

-- the two numbers
apart_parts : (c d : Context) → apart c d ≡ true → (bit_and c.reach d.reach ≡ 0) × (bit_and c.through d.through ≡ 0)
unfolding apart
apart_parts c d e =
    let first = eqb (bit_and c.reach d.reach) 0 in
    let second = eqb (bit_and c.through d.through) 0 in
    (eqb-true (bit_and c.reach d.reach) 0 (and_left first second e), eqb-true (bit_and c.through d.through) 0 (and_right first second e))

apart_from : (c d : Context) → bit_and c.reach d.reach ≡ 0 → bit_and c.through d.through ≡ 0 → apart c d ≡ true
unfolding apart
apart_from c d e f = rw (e, f) refl

module _ (rows : ℕ) (a b : Period) (e : covers rows a b ≡ true) where
  -- what covers is at the same state
  pub covers_state : link_state a.link ≡ link_state b.link
  unfolding covers
  covers_state = eqb-true (link_state a.link) (link_state b.link) (and_left (eqb (link_state a.link) (link_state b.link)) (apart a.context (lacking rows b.context)) e)

  covers_parts : apart a.context (lacking rows b.context) ≡ true
  unfolding covers
  covers_parts = and_right (eqb (link_state a.link) (link_state b.link)) (apart a.context (lacking rows b.context)) e

-- where the states are the same, the masks decide
module _ (rows : ℕ) (a b : Period) (e : link_state a.link ≡ link_state b.link) where
  pub covers_apart : covers rows a b ≡ apart a.context (lacking rows b.context)
  unfolding covers
  covers_apart = ap (λ (r : Bool). r && apart a.context (lacking rows b.context)) (eq-eqb (link_state a.link) (link_state b.link) e)

  pub covers_holds : covers rows a b ≡ holds b.context (having rows a.context)
  unfolding holds having apart lacking
  covers_holds =
      covers_apart
      ∙ ap₂ (λ (x y : ℕ). eqb x 0 && eqb y 0) (same a.context.reach (2 ^ 64 - 1 - b.context.reach) (omega arith)) (same a.context.through (2 ^ 64 - 1 - b.context.through) (omega arith))
    where
      turned : (A Z M : Bool) → (A && (Z && M)) ≡ ((Z && A) && M)
      turned true true M = refl
      turned true false M = refl
      turned false true M = refl
      turned false false M = refl

      same : (x m : ℕ) → m < 2 ^ 64 → bit_and x (bit_and rows m) ≡ bit_and (bit_and rows x) m
      same x m l =
          bit_ext 64 (bit_and x (bit_and rows m)) (bit_and (bit_and rows x) m) (omega (arith, and_le_r x (bit_and rows m), and_le_r rows m)) (omega (arith, and_le_r (bit_and rows x) m))
          (λ i h. bit_and_lem x (bit_and rows m) i ∙ ap (λ (r : Bool). bit x i && r) (bit_and_lem rows m i) ∙ turned (bit x i) (bit rows i) (bit m i)
          ∙ sym (bit_and_lem (bit_and rows x) m i ∙ ap (λ (r : Bool). r && bit m i) (bit_and_lem rows x i)))

-- an entry that covers another covers what that one covers
pub covers_trans : (rows : ℕ) (a b d : Period) → b.context.reach < 2 ^ 64 → b.context.through < 2 ^ 64 → covers rows a b ≡ true → covers rows b d ≡ true → covers rows a d ≡ true
unfolding lacking
covers_trans rows a b d small small' e f =
    let (g, g') = apart_parts a.context (lacking rows b.context) (covers_parts rows a b e) in
    let (h, h') = apart_parts b.context (lacking rows d.context) (covers_parts rows b d f) in
    covers_apart rows a d (covers_state rows a b e ∙ covers_state rows b d f)
    ∙ apart_from a.context (lacking rows d.context)
    (apart_trans a.context.reach b.context.reach rows (2 ^ 64 - 1 - d.context.reach) small (omega arith) g h)
    (apart_trans a.context.through b.context.through rows (2 ^ 64 - 1 - d.context.through) small' (omega arith) g' h')

pub covers_contained : (target : ℕ) (old new : Period) → Fits 8 old.context → Fits 8 new.context → covers (rows_of 8 target) old new ≡ period_covers target old new
unfolding covers apart lacking period_covers contained
covers_contained target old new f g =
    ap (λ (b : Bool). eqb (link_state old.link) (link_state new.link) && b)
    (ap₂ ◌&&◌ (contained_apart 8 target old.context.reach new.context.reach f.reach_lt g.reach_lt)
    (contained_apart 8 target old.context.through new.context.through f.through_lt g.through_lt))

-- ---- one question in place of three: whether two numbers are the same, and two others none

pub one_question : (a b x y : ℕ) → eqb (bit_or (bit_or (bit_xor a b) x) y) 0 ≡ (eqb a b && (eqb x 0 && eqb y 0))
one_question a b x y = at (eqb a b) refl (eqb x 0) refl
  where
    first : bit_or (bit_or (bit_xor a b) x) y ≡ 0 → bit_or (bit_xor a b) x ≡ 0
    first none = omega (arith, none, or_add_and (bit_or (bit_xor a b) x) y, and_le_r (bit_or (bit_xor a b) x) y)

    same : bit_or (bit_xor a b) x ≡ 0 → a ≡ b
    same none = omega (arith, none, or_add_and (bit_xor a b) x, and_le_r (bit_xor a b) x, xor_add_and a b, and_le_l a b, and_le_r a b)

    second : bit_or (bit_xor a b) x ≡ 0 → x ≡ 0
    second none = omega (arith, none, or_add_and (bit_xor a b) x, and_le_l (bit_xor a b) x)

    at : (s : Bool) → eqb a b ≡ s → (r : Bool) → eqb x 0 ≡ r → eqb (bit_or (bit_or (bit_xor a b) x) y) 0 ≡ (s && (r && eqb y 0))
    at true e true f = ap₂ (λ (k z : ℕ). eqb (bit_or (bit_or (bit_xor k b) z) y) 0) (eqb-true a b e) (eqb-true x 0 f) ∙ ap (λ (k : ℕ). eqb (bit_or (bit_or k 0) y) 0) (xor_self b)
    at true e false f = ne_eqb _ 0 (λ z. eqb-false x 0 f (second (first z)))
    at false e r f = ne_eqb _ 0 (λ z. eqb-false a b e (same (first z)))
