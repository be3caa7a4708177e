-- The context of a word, letter by letter: it describes the word, and a walk along the word that counts up ends with it; the walk of a set likewise.
-- Assumes nothing.
use mathlib.Core.Path.{◌≡◌, ap}
use mathlib.Core.List.{[], ◌∷◌, ◌++◌, append-nil, append_assoc}
use Prim.Native.Nat.{ℕ, ◌+◌, ◌<◌, ◌≤◌}
use lib.ListN.{length, get_or, drop, drop_of_length-le}
use Rattle.std.proofs.lemmas.List.{drop_more}
use Rattle.acceptance.specs.Lasso.{Word, Aut}
use Rattle.acceptance.specs.Contexts.{Small, Context, moved_by, moved_all, longer, longer_all, context_of, Describes}
use Rattle.acceptance.proofs.Contexts.{describes_nil, describes_snoc}

module _ (n : ℕ) (B : Aut) where
  -- ---- the walk of a set

  pub moved_all_next : (s : ℕ) (w : Word) (i : ℕ) → i < length w → moved_all n B s (drop i w) ≡ moved_all n B (moved_by n B s (get_or w i 0)) (drop (i + 1) w)
  unfolding moved_all
  moved_all_next s w i l = ap (moved_all n B s) (drop_more w i 0 l)

  pub moved_all_end : (s : ℕ) (w : Word) (i : ℕ) → length w ≤ i → moved_all n B s (drop i w) ≡ s
  unfolding moved_all
  moved_all_end s w i l = ap (moved_all n B s) (drop_of_length-le w l)

  -- ---- the walk of a context

  pub longer_all_next : (c : Context) (w : Word) (i : ℕ) → i < length w → longer_all n B c (drop i w) ≡ longer_all n B (longer n B c (get_or w i 0)) (drop (i + 1) w)
  unfolding longer_all
  longer_all_next c w i l = ap (longer_all n B c) (drop_more w i 0 l)

  pub longer_all_end : (c : Context) (w : Word) (i : ℕ) → length w ≤ i → longer_all n B c (drop i w) ≡ c
  unfolding longer_all
  longer_all_end c w i l = ap (longer_all n B c) (drop_of_length-le w l)

module _ {n : ℕ} {B : Aut} (small : Small n B) where
  describes_append : {c : Context} {w : Word} (x : Word) → Describes n B c w → Describes n B (longer_all n B c x) (w ++ x)
  unfolding longer_all
  describes_append {c} {w} [] d = rw append-nil d
  describes_append {c} {w} (y ∷ x) d = rw append_assoc at (describes_append {c = longer n B c y} {w = w ++ (y ∷ [])} x (describes_snoc small y d))

  pub describes_word : (w : Word) → Describes n B (context_of n B w) w
  unfolding context_of
  describes_word w = describes_append w (describes_nil n B)
