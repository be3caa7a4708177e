-- The test of a lasso is right: the stem's set meets the states from which the period is accepted exactly if the lasso is accepted. Assumes nothing.
use mathlib.Core.Bool.{Bool, true, ◌&&◌}
use mathlib.Core.Logic.{◌↔◌}
use mathlib.Core.Path.{◌≡◌, sym, ◌∙◌}
use Prim.Native.Nat.{ℕ, ◌<◌}
use Rattle.bits.specs.Bits.{bit, any}
use Rattle.bits.specs.Sets.{SetIs, meets}
use Rattle.bits.specs.Pairs.{pair, row}
use Rattle.bits.proofs.Truth.{and_left, and_right, and_both}
use Rattle.bits.proofs.Quantifiers.{any_intro, any_elim}
use Rattle.bits.proofs.Bits.{bit_set_of}
use Rattle.bits.proofs.Sets.{meets_intro, meets_elim}
use Rattle.bits.proofs.Pairs.{bit_row}
use Rattle.acceptance.specs.Lasso.{Word, Aut, Reach, Accepted}
use Rattle.acceptance.specs.Contexts.{Small, Context, target, Describes}
use Rattle.acceptance.proofs.Membership.{Loops, accepted_loops, loops_accepted}
use Rattle.acceptance.proofs.Targets.{target_is}
use Rattle.automata.specs.Repeated.{closure, turning, leading_into, repeated_by, repeated}
use Rattle.automata.proofs.Closure.{closure_reaches}

module _ (n : ℕ) (c : Context) where
  paths : ℕ
  paths = closure n c.reach

  -- a copy through acceptance from p, and copies back
  turns : ℕ → ℕ → Bool
  turns p q = pair n c.through p q && pair n paths q p

  turning_bit : (p : ℕ) → p < n → bit (turning n paths c.through) p ≡ any (turns p) n
  unfolding turning turns
  turning_bit p h = bit_set_of (λ p. any (λ q. pair n c.through p q && pair n paths q p) n) n p h

  repeated_bit : (q : ℕ) → q < n → bit (repeated n c) q ≡ meets n (row n paths q) (turning n paths c.through)
  unfolding repeated repeated_by leading_into paths
  repeated_bit q h = bit_set_of (λ q. meets n (row n paths q) (turning n paths c.through)) n q h

  repeated_loops : (q : ℕ) → q < n → (bit (repeated n c) q ≡ true) ↔ Loops n (row n c.reach) (row n c.through) q
  unfolding paths turns
  repeated_loops q h = (
    λ e.
        let (p, l, ahead, around) = meets_elim n (row n paths q) (turning n paths c.through) (sym (repeated_bit q h) ∙ e) in
        let (s, k, both) = any_elim (turns p) n (sym (turning_bit p l) ∙ around) in
        record {
          at = p;
          to = s;
          from_small = h;
          at_small = l;
          to_small = k;
          ahead = (closure_reaches n c.reach q p h l).0 (sym (bit_row n paths q p l) ∙ ahead);
          passes = bit_row n c.through p s k ∙ and_left (pair n c.through p s) (pair n paths s p) both;
          back = (closure_reaches n c.reach s p k l).0 (and_right (pair n c.through p s) (pair n paths s p) both);
        },
    λ o.
        let p = o.at in
        let s = o.to in
        let ahead = bit_row n paths q p o.at_small ∙ (closure_reaches n c.reach q p h o.at_small).1 o.ahead in
        let back = (closure_reaches n c.reach s p o.to_small o.at_small).1 o.back in
        let passes = sym (bit_row n c.through p s o.to_small) ∙ o.passes in
        repeated_bit q h
        ∙ meets_intro n (row n paths q) (turning n paths c.through) p o.at_small ahead
        (turning_bit p o.at_small
        ∙ any_intro (turns p) n s o.to_small (and_both (pair n c.through p s) (pair n paths s p) passes back)),
  )

-- x has the states that the stem leads to, c describes the period
accepted_from : {n x : ℕ} {B : Aut} {c : Context} {u v : Word} → Describes n B c v → SetIs n x (Reach B B.start u)
    → (meets n x (repeated n c) ≡ true) ↔ Accepted B u v
accepted_from {n} {x} {B} {c} d stems = (
  λ e.
      let (q, l, f, g) = meets_elim n x (repeated n c) e in
      loops_accepted n (row n c.reach) (row n c.through) d.reaches d.passes stems q f ((repeated_loops n c q l).0 g),
  λ a.
      let (q, f, o) = accepted_loops n (row n c.reach) (row n c.through) d.reaches d.passes stems a in
      meets_intro n x (repeated n c) q o.from_small f ((repeated_loops n c q o.from_small).1 o),
)

pub accepted : {n : ℕ} {B : Aut} → Small n B → {c : Context} {v : Word} → Describes n B c v → (u : Word)
    → (meets n (target n B u) (repeated n c) ≡ true) ↔ Accepted B u v
accepted small d u = accepted_from d (target_is small u)
