-- A table that grows from its root: once the root has been offered, the rest of the whole is what comes of taking the entries. Assumes nothing.
use mathlib.Core.Path.{◌≡◌, refl, sym, ap₂, subst}
use mathlib.Core.Bool.{Bool}
use mathlib.Core.List.{List, [], ◌∷◌}
use Rattle.std.specs.Prelude.{Result, Ok, Err}
use Prim.Native.Nat.{ℕ, ◌^◌}
use Rattle.bits.specs.Fields.{stem_entry}
use Rattle.growth.specs.declared.Full.{Full}
use Rattle.growth.specs.Grow.{Outcome, onward, grow, table}
use Rattle.growth.proofs.Offering.{grow_longer}
use Rattle.automata.specs.declared.Automaton.{Automaton}
use Rattle.automata.specs.Loaded.{aut, aut_of}
use Rattle.stems.specs.declared.growing.Growing.{Growing}
use Rattle.stems.specs.Stems.{stem_covers, stem_root, stem_next, stem_table}
use Rattle.stems.specs.Growing.{held, offered, Kept}
use Rattle.stems.proofs.Loop.{grown_self, Going, going_on, going_full, going_last}

module _ (model rule : Automaton (List (List ℕ))) {root : ℕ} (at-root : root ≡ stem_entry (2 ^ rule.head.start) model.head.start 0 0)
    {g new : Growing} {r : Result (Unit {0}) Full} (n : g.n ≡ 0)
    (k : Kept (offered g (root ∷ [])) g new r) where
  abbrev whole : Outcome ℕ
  whole = stem_table (aut model) (aut rule) g.largest g.room

  -- what comes of a table when its entries are taken, from the first on
  abbrev rest : List ℕ → Outcome ℕ
  rest = grow (stem_covers g.largest) (stem_next (aut model) (aut rule)) g.room g.room 0

  whole_is : whole ≡ onward (offered g (root ∷ [])) rest
  unfolding stem_table table stem_root aut_of
  whole_is = rw (at-root, n) refl

  going : Going whole (onward (offered g (root ∷ [])) rest) g g
  going = record { grown = grown_self g; same = sym whole_is }

  -- no room for it
  pub root_full : {err : Full} → r ≡ Err err → Kept whole g new r
  root_full f = going_full (root ∷ []) rest going refl k f (rw f refl)

  -- the entries are taken
  pub root_last : {u : Unit {0}} {last : Growing} {r' : Result (Unit {0}) Full} → r ≡ Ok u
      → Kept (grow (stem_covers new.largest) (stem_next (aut model) (aut rule)) new.room new.room 0 (held new)) new last r' → Kept whole g last r'
  root_last {last = last} {r'} f k' =
      going_last (going_on (root ∷ []) rest going refl k f) (grow_longer (stem_covers g.largest) g.room (stem_next (aut model) (aut rule)) g.room 0 (held new))
      (subst (λ o. Kept o new last r') taken k')
    where
      taken : grow (stem_covers new.largest) (stem_next (aut model) (aut rule)) new.room new.room 0 (held new) ≡ rest (held new)
      taken = ap₂ (λ (largest : Bool) (room : ℕ). grow (stem_covers largest) (stem_next (aut model) (aut rule)) room room 0 (held new)) k.grown.same_largest k.grown.same_room
