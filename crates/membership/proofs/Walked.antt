-- A walk along a word in a loaded automaton: where it begins, a turn, where it ends. Assumes nothing.
use mathlib.Core.Path.{◌≡◌, ap, sym, ◌∙◌}
use mathlib.Core.List.{List, []}
use Prim.Native.Nat.{ℕ, ◌+◌, ◌*◌, ◌%◌, ◌^◌, ◌<◌, ◌≤◌}
use lib.ListN.{length, get_or, drop}
use Rattle.bits.specs.Sets.{moved, by_rows}
use Rattle.acceptance.specs.Lasso.{Word}
use Rattle.acceptance.specs.Contexts.{Context, idle, moved_all, target, longer, longer_all, context_of}
use Rattle.acceptance.proofs.Words.{moved_all_next, moved_all_end, longer_all_next, longer_all_end}
use Rattle.automata.specs.declared.Automaton.{Automaton}
use Rattle.automata.specs.Loaded.{aut, aut_of}
use Rattle.automata.proofs.Members.{shifted_one}
use Rattle.automata.proofs.Longer.{moved_by_letter}

module _ (model : Automaton (List (List ℕ))) (w : Word) where
  pub moved_begin : model.head.start < 16 → moved_all 16 (aut model) (1 * 2 ^ model.head.start % 2 ^ 16) w ≡ target 16 (aut model) w
  unfolding target aut_of
  moved_begin h = ap (λ (s : ℕ). moved_all 16 (aut model) s w) (shifted_one 16 model.head.start h)

  pub moved_end : (i s : ℕ) → length w ≤ i → moved_all 16 (aut model) s (drop i w) ≡ target 16 (aut model) w → s ≡ target 16 (aut model) w
  moved_end i s l e = sym (moved_all_end 16 (aut model) s w i l) ∙ e

  pub moved_turn : (i s : ℕ) {r : ℕ} → i < length w → r ≡ moved 16 (by_rows (get_or model.table (get_or w i 0) [])) s
      → moved_all 16 (aut model) r (drop (i + 1) w) ≡ moved_all 16 (aut model) s (drop i w)
  moved_turn i s l e =
      ap (λ (r : ℕ). moved_all 16 (aut model) r (drop (i + 1) w)) (e ∙ sym (moved_by_letter 16 model.table model.head s (get_or w i 0)))
      ∙ sym (moved_all_next 16 (aut model) s w i l)

  pub context_begin : {c : Context} → c ≡ idle 16 (aut model).final → longer_all 16 (aut model) c w ≡ context_of 16 (aut model) w
  unfolding context_of
  context_begin e = ap (λ (c : Context). longer_all 16 (aut model) c w) e

  pub context_end : (i : ℕ) (c : Context) → length w ≤ i → longer_all 16 (aut model) c (drop i w) ≡ context_of 16 (aut model) w → c ≡ context_of 16 (aut model) w
  context_end i c l e = sym (longer_all_end 16 (aut model) c w i l) ∙ e

  pub context_turn : (i : ℕ) (c : Context) {r : Context} → i < length w → r ≡ longer 16 (aut model) c (get_or w i 0)
      → longer_all 16 (aut model) r (drop (i + 1) w) ≡ longer_all 16 (aut model) c (drop i w)
  context_turn i c l e =
      ap (λ (r : Context). longer_all 16 (aut model) r (drop (i + 1) w)) e ∙ sym (longer_all_next 16 (aut model) c w i l)
