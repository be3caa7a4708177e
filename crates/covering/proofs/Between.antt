-- A place in the chain of a candidate's state: the entry after it is passed, taken out, or put in front. Assumes nothing.
use mathlib.Core.Path.{◌≡◌, sym, ap, ◌∙◌}
use mathlib.Core.Bool.{Bool, true, false, ◌||◌}
use mathlib.Core.List.{List, [], ◌∷◌, map}
use Prim.Native.Nat.{ℕ, suc, ◌+◌, ◌≤◌, ◌<◌}
use native.Mathlib.Omega.{arith}
use lib.ListN.{length, get_or, set, length-set}
use Rattle.bits.specs.Fields.{link_state}
use Rattle.growth.specs.Grow.{covered}
use Rattle.covering.specs.Entries.{Period}
use Rattle.covering.specs.Chained.{entry_at, times, Runs, Chain, Chained}
use Rattle.covering.proofs.Runs.{times_here, times_later, front, Led, led, back, runs_back, unlinked_led, unlinked_runs, pushed}
use Rattle.covering.proofs.Chain.{chains_all, chain_set}
use Rattle.covering.proofs.Trail.{times_back, times_front, length_back, swapped, dropped, found, covered_back, covered_at, runs_some, runs_rest}

module _ (covers : Period → Period → Bool) (t : List Period) (c : Period) where
  -- it stands between `done` and `run`
  pub record Between (chains done run : List ℕ) : Type 0 where
    pub before : Led chains (link_state c.link) done
    pub after : Runs chains (front (link_state c.link) done) run
    pub short : length done + length run ≤ length t
    pub once : (i : ℕ) → times i done + times i run ≤ 1
    pub inside : (i : ℕ) → 1 ≤ times i done + times i run → (i < length t) × (link_state (entry_at t i).link ≡ link_state c.link)
    pub enough : (d : Period) → link_state d.link ≡ link_state c.link
        → (covers c d || covered covers t d) ≡ (covers c d || (covered covers (map (entry_at t) done) d || covered covers (map (entry_at t) run) d))
    pub left : covered covers t c ≡ covered covers (map (entry_at t) run) c
    pub others : (q : ℕ) → q < 16 → (q ≡ link_state c.link → ⊥) → Chain covers t [] chains q

  module _ (low : link_state c.link < 16) where
    -- ---- the places of the candidate's chain

    data Own : ℕ → Type 0 where
      head : Own (link_state c.link)
      entry : (k : ℕ) → link_state (entry_at t k).link ≡ link_state c.link → k < length t → Own (16 + k)

    own_low : {w : ℕ} → Own w → w < 16 + length t
    own_low head = omega (arith, low)
    own_low (entry k e l) = omega (arith, l)

    others_set : {w : ℕ} {chains : List ℕ} (v : ℕ) → Own w → ((q : ℕ) → q < 16 → (q ≡ link_state c.link → ⊥) → Chain covers t [] chains q)
        → (q : ℕ) → q < 16 → (q ≡ link_state c.link → ⊥) → Chain covers t [] (set chains w v) q
    others_set v head others q l h = chain_set covers (link_state c.link) v (others q l h) h (λ j m s e. omega (arith, low, e))
    others_set v (entry k same m) others q l h =
        chain_set covers (16 + k) v (others q l h) (λ e. omega (arith, l, e))
        (λ j m s e. let is : j ≡ k = omega (arith, e) in h (sym s ∙ ap (λ (i : ℕ). link_state (entry_at t i).link) is ∙ same))

    module _ {chains done run : List ℕ} (b : Between chains done run) where
      own_front : Own (front (link_state c.link) done)
      own_front = at done (λ i m. b.inside i (omega (arith, m)))
        where
          at : (l : List ℕ) → ((i : ℕ) → 1 ≤ times i l → (i < length t) × (link_state (entry_at t i).link ≡ link_state c.link)) → Own (front (link_state c.link) l)
          at [] h = head
          at (i ∷ l) h = let (m, e) = h i (omega (arith, times_here i l)) in entry i e m

      pub front_low : front (link_state c.link) done < 16 + length t
      front_low = own_low own_front

      -- the whole chain
      pub chain_back : (gone : List Period) → ((d : Period) → link_state d.link ≡ link_state c.link
          → (covered covers gone d || covered covers t d) ≡ (covered covers gone d || (covered covers (map (entry_at t) done) d || covered covers (map (entry_at t) run) d)))
          → Chain covers t gone chains (link_state c.link)
      chain_back gone enough = record {
        run = back done run;
        runs = runs_back b.before b.after;
        short = omega (arith, length_back done run, b.short);
        once = λ i. omega (arith, times_back i done run, b.once i);
        inside = λ i m. b.inside i (omega (arith, m, times_back i done run));
        enough = λ d e. enough d e ∙ sym (ap (λ (r : Bool). covered covers gone d || r) (covered_back covers t d done run));
      }

    -- ---- at an entry

    module _ {i : ℕ} {chains done rest : List ℕ} (b : Between chains done (i ∷ rest)) where
      abbrev place : ℕ
      place = front (link_state c.link) done

      pub here : (i < length t) × (link_state (entry_at t i).link ≡ link_state c.link)
      here = b.inside i (omega (arith, times_here i rest))

      -- it is in the chain once
      alone : (times i done ≡ 0) × (times i rest ≡ 0)
      alone = (omega (arith, b.once i, times_here i rest), omega (arith, b.once i, times_here i rest))

      -- it does not cover the candidate
      module _ (misses : covers (entry_at t i) c ≡ false) where
        left : covered covers t c ≡ covered covers (map (entry_at t) rest) c
        left = b.left ∙ ap (λ (r : Bool). r || covered covers (map (entry_at t) rest) c) misses

        pub past : Between chains (i ∷ done) rest
        unfolding times
        past = record {
          before = led (runs_some b.after) b.before;
          after = runs_rest b.after;
          short = omega (arith, b.short);
          once = λ j. omega (arith, b.once j);
          inside = λ j m. b.inside j (omega (arith, m));
          enough = λ d e. b.enough d e
              ∙ ap (λ (r : Bool). covers c d || r) (swapped (covered covers (map (entry_at t) done) d) (covers (entry_at t i) d) (covered covers (map (entry_at t) rest) d));
          left = left;
          others = b.others;
        }

      -- it is taken out
      module _ (fits : 16 + length t ≤ length chains) where
        abbrev cut : List ℕ
        cut = set chains place (get_or chains (16 + i) 0)

        after_cut : Runs cut place rest
        after_cut = unlinked_runs low done b.after (λ j m. omega (arith, m, b.once j, times_later j i rest)) (omega (arith, fits, front_low b))

        before_cut : Led cut (link_state c.link) done
        before_cut = unlinked_led low (get_or chains (16 + i) 0) b.before (λ j. omega (arith, b.once j))

        others_cut : (q : ℕ) → q < 16 → (q ≡ link_state c.link → ⊥) → Chain covers t [] cut q
        others_cut = others_set (get_or chains (16 + i) 0) (own_front b) b.others

        pub without : covers (entry_at t i) c ≡ false → ((d : Period) → covers (entry_at t i) d ≡ true → covers c d ≡ true) → Between cut done rest
        without misses under = record {
          before = before_cut;
          after = after_cut;
          short = omega (arith, b.short);
          once = λ j. omega (arith, b.once j, times_later j i rest);
          inside = λ j m. b.inside j (omega (arith, m, times_later j i rest));
          enough = λ d e. b.enough d e
              ∙ dropped (covers c d) (covered covers (map (entry_at t) done) d) (covers (entry_at t i) d) (covered covers (map (entry_at t) rest) d) (under d);
          left = left misses;
          others = others_cut;
        }

        -- and put in front: it covers what the candidate does
        pub fronted : covers (entry_at t i) c ≡ true → ((d : Period) → covers c d ≡ true → covers (entry_at t i) d ≡ true)
            → Chained covers t [] (set (set cut (16 + i) (get_or cut (link_state c.link) 0)) (link_state c.link) (suc i))
        fronted hits over =
            chains_all covers
            (record {
              run = i ∷ back done rest;
              runs = pushed low (runs_back before_cut after_cut) (omega (arith, times_back i done rest, alone.0, alone.1)) (omega (arith, fits, here.0, length-set chains place (get_or chains (16 + i) 0)));
              short = omega (arith, b.short, length_back done rest);
              once = λ j. omega (arith, b.once j, times_front j i done rest);
              inside = λ j m. b.inside j (omega (arith, m, times_front j i done rest));
              enough = λ d e. found (covers c d) (covered covers t d) (covered covers (map (entry_at t) done) d) (covers (entry_at t i) d) (covered covers (map (entry_at t) rest) d)
                  (b.enough d e) (over d) (covered_at covers t i d here.0)
                  ∙ ap (λ (r : Bool). covers (entry_at t i) d || r) (sym (covered_back covers t d done rest));
            })
            (others_set (suc i) head (others_set (get_or cut (link_state c.link) 0) (entry i here.1 here.0) others_cut))
