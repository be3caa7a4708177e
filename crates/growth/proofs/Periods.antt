-- The period tables (document 01, "The walk", 3), for a state s of A and the rows of a set of states of B: each period of A from s has an entry that
-- stands for it on those rows, and a · 3 ^ (k · b) entries are room enough, k being how many rows there are. Assumes nothing.
use mathlib.Core.Path.{◌≡◌}
use mathlib.Core.Bool.{◌&&◌}
use mathlib.Core.List.{List, [], ◌∷◌, ◌++◌, Memᴰ}
use Prim.Native.Nat.{ℕ, ◌*◌, ◌^◌, ◌≤◌}
use native.Mathlib.Nat.{mul-le-mul_left, mul-le-mul_right, pow-le-pow_right, zero-lt-suc}
use lib.ListN.{length}
use Rattle.bits.specs.Sets.{SetIs}
use Rattle.bits.specs.Pairs.{contained_on}
use Rattle.bits.proofs.Truth.{and_both, and_left, and_right}
use Rattle.bits.proofs.Contained.{contained_on_self}
use Rattle.acceptance.specs.Lasso.{Word, Aut, Reach, here, move, opens, Period, starts}
use Rattle.acceptance.specs.Contexts.{Small, Context, idle, longer, Describes}
use Rattle.acceptance.proofs.Paths.{reach_append, period_reach, period_append}
use Rattle.acceptance.proofs.Preserve.{Within, within_trans, within_append}
use Rattle.acceptance.proofs.Contexts.{describes_nil, describes_snoc, contained_within}
use Rattle.growth.specs.Grow.{ended, entries, Complete}
use Rattle.growth.specs.Numbered.{Numbered, Bounded}
use Rattle.growth.specs.Nodes.{Node, seed, child}
use Rattle.growth.specs.Tables.{members, contained, one_letter, period_nodes}
use Rattle.growth.proofs.Entries.{Each}
use Rattle.growth.proofs.Steps.{mem_steps, steps_mem}
use Rattle.growth.proofs.Basis.{Entry}
use Rattle.growth.proofs.Nodes.{True, Kind, true_entries, basis, fits, ends_in_room}
use Rattle.growth.proofs.Members.{members_fit}
use Rattle.growth.proofs.Cells.{contexts_counted}

module _ {letters states n : ℕ} {A B : Aut} (bound : Bounded letters states A) (small : Small n B) (s : ℕ) where
  true_first : (c : Node Context) → Memᴰ c (one_letter letters states n A B s) → True (Period A s) (Describes n B) c
  unfolding one_letter child seed
  true_first c m =
      let (x, q, _, _, t, same) = steps_mem letters states (λ x q. A.step s x q && opens A s x q) (child (longer n B) 65535 (seed (idle n B.final) s)) m in
      rw same (record {
        ends = starts (and_left (A.step s x q) (opens A s x q) t) (and_right (A.step s x q) (opens A s x q) t) here;
        says = describes_snoc small x (describes_nil n B);
      })

  module _ {rows : ℕ} {Rows : ℕ → Type 0} (rows_are : SetIs n rows Rows) (room : ℕ) where
    period_kind : Kind A (longer n B) (contained n rows) (Period A s) (Describes n B) (Within B Rows)
    unfolding contained
    period_kind = record {
      ends_snoc = λ v q x r h t. period_append h (move t here);
      says_snoc = λ c v x d. describes_snoc small x d;
      test_self = λ c. and_both _ _ (contained_on_self n rows c.reach) (contained_on_self n rows c.through);
      ordered = λ c d v v' e f t. contained_within rows_are e f
          (and_left (contained_on n rows c.reach d.reach) (contained_on n rows c.through d.through) t)
          (and_right (contained_on n rows c.reach d.reach) (contained_on n rows c.through d.through) t);
      trans = λ a b c. within_trans;
      extend = λ a b x. within_append (x ∷ []);
    }

    -- every entry's word is a period from s to its state and has its context
    pub periods_true : Each (True (Period A s) (Describes n B)) (entries (period_nodes letters states n A B s rows room))
    unfolding period_nodes
    periods_true = true_entries period_kind bound true_first room

    -- every period of A from s has an entry at its end that stands for it
    pub periods_basis : {t : List (Node Context)} → period_nodes letters states n A B s rows room ≡ ended t → {v : Word} {q : ℕ} → Period A s v q → Entry (Within B Rows) t q v
    unfolding period_nodes one_letter child seed
    periods_basis is (starts {x = x} {q = q} g o h) =
        basis period_kind bound true_first room is
        (mem_steps letters states (λ x q. A.step s x q && opens A s x q) (child (longer n B) 65535 (seed (idle n B.final) s)) x q
        (bound.letter_bound s x q g) (bound.small.step_small s x q g) (and_both (A.step s x q) (opens A s x q) g o)) h

    module _ {a b : ℕ} (by-a : Numbered a A) (by-b : Numbered b B) {w : Word} (reached : Reach A A.start w s) (comes : (q : ℕ) → Rows q → (u : Word) × Reach B B.start u q) where
      pub periods_fit : length (entries (period_nodes letters states n A B s rows room)) ≤ a * 3 ^ (length (members n rows) * b)
      unfolding period_nodes
      periods_fit = fits period_kind bound true_first room by-a (λ v q p. (w ++ v, reach_append reached (period_reach p))) (contexts_counted by-b rows_are comes)

      pub periods_end : a * 3 ^ (length (members n rows) * b) ≤ room → Complete (period_nodes letters states n A B s rows room)
      unfolding period_nodes
      periods_end = ends_in_room period_kind bound true_first room by-a (λ v q p. (w ++ v, reach_append reached (period_reach p))) (contexts_counted by-b rows_are comes)

      -- B has at most b rows
      pub all_rows : a * 3 ^ (length (members n rows) * b) ≤ a * 3 ^ (b * b)
      all_rows = mul-le-mul_left a (pow-le-pow_right (zero-lt-suc 2) (mul-le-mul_right b (members_fit by-b rows_are comes)))
