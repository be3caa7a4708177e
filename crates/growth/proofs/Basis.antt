-- A table in which every entry's steps are answered by entries is a basis (the paper's lemma 9): it has, for each path of A from an entry,
-- an entry at the path's end whose word is as small as the path's in an order on words. Assumes nothing.
use mathlib.Core.Path.{◌≡◌}
use mathlib.Core.Bool.{true}
use mathlib.Core.List.{List, [], ◌∷◌, ◌++◌, append-nil}
use Prim.Native.Nat.{ℕ}
use lib.Seq.{append_snoc}
use Rattle.acceptance.specs.Lasso.{Word, Aut, Reach, here, move}
use Rattle.growth.specs.Nodes.{Node}
use Rattle.growth.proofs.Entries.{At}

-- an entry at the state s whose word is below u
pub record Entry {L : Type 0} (Less : Word → Word → Type 0) (t : List (Node L)) (s : ℕ) (u : Word) : Type 0 where
  pub index : ℕ
  pub node : Node L
  pub stands : At t index node
  pub at_state : node.state ≡ s
  pub below : Less node.word u

-- every path of A that starts at an entry
pub follow : {A : Aut} {L : Type 0} {Less : Word → Word → Type 0} {t : List (Node L)} → ((a b c : Word) → Less a b → Less b c → Less a c)
    → ((a b : Word) (x : ℕ) → Less a b → Less (a ++ (x ∷ [])) (b ++ (x ∷ [])))
    → ((i : ℕ) (e : Node L) (x q : ℕ) → At t i e → A.step e.state x q ≡ true → Entry Less t q (e.word ++ (x ∷ [])))
    → {p s : ℕ} {u w : Word} → Entry Less t p u → Reach A p w s → Entry Less t s (u ++ w)
follow trans extend answered d here = rw append-nil d
follow trans extend answered {u = u} d (move {x = x} {q = q} {w = w} st h) =
    let e = answered d.index d.node x q d.stands (rw d.at_state st) in
    rw (← (append_snoc u x w)) (follow trans extend answered (record {
      index = e.index;
      node = e.node;
      stands = e.stands;
      at_state = e.at_state;
      below = trans _ _ _ e.below (extend _ _ x d.below);
    }) h)
