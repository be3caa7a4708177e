-- The chains of a table: what a write leaves of those of other states, and the chains with one entry more. Assumes nothing.
use mathlib.Core.Path.{◌≡◌, refl, sym, ap, ap₂, ◌∙◌, subst}
use mathlib.Core.Bool.{Bool, true, false, ◌||◌, or-false, false≢true}
use mathlib.Core.List.{List, [], ◌∷◌, ◌++◌, map}
use Prim.Native.Nat.{ℕ, zero, suc, ◌+◌, ◌≤◌, ◌<◌}
use native.Mathlib.Omega.{arith}
use borrow.Author.Tests.{eqb-true, eqb-false}
use lib.Dec.{eqb}
use lib.ListN.{length, get_or, set, length-append, get_or-append}
use lib.Seq.{get_or-set_other, get_or-append_seam}
use Rattle.bits.specs.Fields.{link_state}
use Rattle.bits.proofs.Truth.{false_from}
use Rattle.growth.specs.Grow.{covered}
use Rattle.growth.proofs.Offering.{covered_snoc}
use Rattle.covering.specs.Entries.{Period}
use Rattle.covering.specs.Chained.{entry_at, times, ends, Chain, Chained, Cleared}
use Rattle.covering.proofs.Runs.{times_here, times_later, times_other, runs_as, pushed}

-- ---- no entry

module _ (covers : Period → Period → Bool) where
  pub chained_none : {chains : List ℕ} → Cleared chains → Chained covers [] [] chains
  unfolding times
  chained_none c = record {
    at = λ q h. record {
      run = [];
      runs = ends (c.none q h);
      short = omega arith;
      once = λ i. omega arith;
      inside = λ i m. absurd (omega arith);
      enough = λ d e. refl;
    };
  }

  -- all chains, from that of one state and the others
  pub chains_all : {t gone : List Period} {chains : List ℕ} {p : ℕ} → Chain covers t gone chains p
      → ((q : ℕ) → q < 16 → (q ≡ p → ⊥) → Chain covers t gone chains q) → Chained covers t gone chains
  chains_all {t} {gone} {chains} {p} own others = record { at = λ q l. at q l (eqb q p) refl }
    where
      at : (q : ℕ) → q < 16 → (b : Bool) → eqb q p ≡ b → Chain covers t gone chains q
      at q l true e = subst (Chain covers t gone chains) (sym (eqb-true q p e)) own
      at q l false e = others q l (eqb-false q p e)

  -- what is gone helps
  pub chain_gone : {t : List Period} {chains : List ℕ} {q : ℕ} (gone : List Period) → Chain covers t [] chains q → Chain covers t gone chains q
  chain_gone gone c = record {
    run = c.run;
    runs = c.runs;
    short = c.short;
    once = c.once;
    inside = c.inside;
    enough = λ d e. ap (λ (b : Bool). covered covers gone d || b) (c.enough d e);
  }

  -- ---- a write elsewhere

  pub chain_set : {t gone : List Period} {chains : List ℕ} {q : ℕ} (w v : ℕ) (c : Chain covers t gone chains q) → (q ≡ w → ⊥)
      → ((j : ℕ) → j < length t → link_state (entry_at t j).link ≡ q → 16 + j ≡ w → ⊥) → Chain covers t gone (set chains w v) q
  chain_set {chains = chains} {q} w v c head rest = record {
    run = c.run;
    runs = runs_as c.runs (get_or-set_other chains w q v 0 head) (λ j m. get_or-set_other chains w (16 + j) v 0 (rest j (c.inside j m).0 (c.inside j m).1));
    short = c.short;
    once = c.once;
    inside = c.inside;
    enough = c.enough;
  }

  pub chained_beyond : {t gone : List Period} {chains : List ℕ} (w v : ℕ) → Chained covers t gone chains → 16 + length t ≤ w → Chained covers t gone (set chains w v)
  chained_beyond w v c l = record { at = λ q h. chain_set w v (c.at q h) (λ e. omega arith) (λ j m s e. omega arith) }

  -- ---- an entry more

  module _ (t : List Period) (c : Period) where
    entry_old : (i : ℕ) → i < length t → entry_at (t ++ (c ∷ [])) i ≡ entry_at t i
    unfolding entry_at
    entry_old i l = get_or-append t (c ∷ []) _ i l

    entry_new : entry_at (t ++ (c ∷ [])) (length t) ≡ c
    unfolding entry_at
    entry_new = get_or-append_seam t c [] _

    entries_old : (run : List ℕ) → ((i : ℕ) → 1 ≤ times i run → i < length t) → map (entry_at (t ++ (c ∷ []))) run ≡ map (entry_at t) run
    entries_old [] h = refl
    entries_old (i ∷ run) h =
        ap₂ ◌∷◌ (entry_old i (h i (omega (arith, times_here i run)))) (entries_old run (λ j m. h j (omega (arith, m, times_later j i run))))

    long : length (t ++ (c ∷ [])) ≡ suc (length t)
    long = omega (arith, length-append t (c ∷ []))

    module _ {chains : List ℕ} (chained : Chained covers t (c ∷ []) chains) (fits : 16 + length t < length chains)
        (own : (d : Period) → covers c d ≡ true → link_state c.link ≡ link_state d.link) (low : link_state c.link < 16) where
      abbrev state : ℕ
      state = link_state c.link

      abbrev linked : List ℕ
      linked = set (set chains (16 + length t) (get_or chains state 0)) state (suc (length t))

      -- the entry covers what is gone
      joined : (C T R : Bool) → ((C || false) || T) ≡ ((C || false) || R) → (T || C) ≡ (C || R)
      joined true true R e = refl
      joined true false R e = refl
      joined false T R e = or-false T ∙ e

      apart : (C T R : Bool) → C ≡ false → ((C || false) || T) ≡ ((C || false) || R) → (T || C) ≡ R
      apart true T R f e = absurd (false≢true (sym f))
      apart false T R f e = or-false T ∙ e

      here : Chain covers (t ++ (c ∷ [])) [] linked state
      here = record {
        run = length t ∷ old.run;
        runs = pushed low old.runs fresh fits;
        short = omega (arith, long, old.short);
        once = λ i. once i (eqb i (length t)) refl;
        inside = λ i m. inside i m (eqb i (length t)) refl;
        enough = enough;
      }
        where
          old : Chain covers t (c ∷ []) chains state
          old = chained.at state low

          fresh : times (length t) old.run ≡ 0
          fresh = zero_from (times (length t) old.run) (λ m. omega (arith, (old.inside (length t) m).0))
            where
              zero_from : (k : ℕ) → (1 ≤ k → ⊥) → k ≡ 0
              zero_from zero h = refl
              zero_from (suc k) h = absurd (h (omega arith))

          once : (i : ℕ) (b : Bool) → eqb i (length t) ≡ b → times i (length t ∷ old.run) ≤ 1
          once i true e = subst (λ (j : ℕ). times j (length t ∷ old.run) ≤ 1) (sym (eqb-true i (length t) e)) (omega (arith, times_here (length t) old.run, fresh))
          once i false e = omega (arith, times_other i (length t) old.run (eqb-false i (length t) e), old.once i)

          inside : (i : ℕ) → 1 ≤ times i (length t ∷ old.run) → (b : Bool) → eqb i (length t) ≡ b → (i < length (t ++ (c ∷ []))) × (link_state (entry_at (t ++ (c ∷ [])) i).link ≡ state)
          inside i m true e =
              let same = eqb-true i (length t) e in
              (omega (arith, same, long), ap (λ (j : ℕ). link_state (entry_at (t ++ (c ∷ [])) j).link) same ∙ ap (λ (d : Period). link_state d.link) entry_new)
          inside i m false e =
              let (l, s) = old.inside i (omega (arith, m, times_other i (length t) old.run (eqb-false i (length t) e))) in
              (omega (arith, l, long), ap (λ (d : Period). link_state d.link) (entry_old i l) ∙ s)

          enough : (d : Period) → link_state d.link ≡ state → covered covers (t ++ (c ∷ [])) d ≡ (covers (entry_at (t ++ (c ∷ [])) (length t)) d || covered covers (map (entry_at (t ++ (c ∷ []))) old.run) d)
          enough d e =
              covered_snoc covers t c d ∙ joined (covers c d) (covered covers t d) _ (old.enough d e)
              ∙ sym (ap₂ (λ (n : Period) (l : List Period). covers n d || covered covers l d) entry_new (entries_old old.run (λ i m. (old.inside i m).0)))

      there : (q : ℕ) → q < 16 → (q ≡ state → ⊥) → Chain covers (t ++ (c ∷ [])) [] linked q
      there q l other = record {
        run = old.run;
        runs = old.runs;
        short = omega (arith, long, old.short);
        once = old.once;
        inside = λ i m. (omega (arith, (old.inside i m).0, long), ap (λ (d : Period). link_state d.link) (entry_old i (old.inside i m).0) ∙ (old.inside i m).1);
        enough = λ d e. covered_snoc covers t c d
            ∙ apart (covers c d) (covered covers t d) _ (false_from (covers c d) (λ p. other (sym e ∙ sym (own d p)))) (old.enough d e)
            ∙ sym (ap (λ (l : List Period). covered covers l d) (entries_old old.run (λ i m. (old.inside i m).0)));
      }
        where
          old : Chain covers t (c ∷ []) linked q
          old =
              chain_set state (suc (length t))
              (chain_set (16 + length t) (get_or chains state 0) (chained.at q l) (λ e. omega arith) (λ j m s e. omega arith))
              other (λ j m s e. omega arith)

      pub chained_append : Chained covers (t ++ (c ∷ [])) [] linked
      chained_append = chains_all here there
