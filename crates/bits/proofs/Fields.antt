-- A stem entry and a period link are read back field by field. Assumes nothing.
use mathlib.Core.Path.{◌≡◌}
use Prim.Native.Nat.{ℕ, ◌<◌}
use native.Mathlib.Omega.{arith}
use Rattle.bits.specs.Fields.{stem_entry, stem_target, stem_state, stem_letter, stem_parent, period_link, link_state, link_letter, link_parent}

module _ (target state letter parent : ℕ) (t : target < 256) (s : state < 16) (l : letter < 16) where
  pub stem_target_lem : stem_target (stem_entry target state letter parent) ≡ target
  stem_target_lem = omega arith

  pub stem_state_lem : stem_state (stem_entry target state letter parent) ≡ state
  stem_state_lem = omega arith

  pub stem_letter_lem : stem_letter (stem_entry target state letter parent) ≡ letter
  stem_letter_lem = omega arith

  pub stem_parent_lem : parent < 4096 → stem_parent (stem_entry target state letter parent) ≡ parent
  stem_parent_lem p = omega arith

module _ (state letter parent : ℕ) (s : state < 16) (l : letter < 16) where
  pub link_state_lem : link_state (period_link state letter parent) ≡ state
  link_state_lem = omega arith

  pub link_letter_lem : link_letter (period_link state letter parent) ≡ letter
  link_letter_lem = omega arith

  pub link_parent_lem : link_parent (period_link state letter parent) ≡ parent
  link_parent_lem = omega arith
