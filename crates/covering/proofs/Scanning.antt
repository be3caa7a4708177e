-- The scan along the chain of a candidate's state: what it has passed does not cover the candidate, and what it takes out the candidate covers. Assumes nothing.
use mathlib.Core.Path.{◌≡◌, refl, sym, ap, ap₂, ◌∙◌, subst}
use mathlib.Core.Bool.{Bool, true, false, ◌||◌, or-false}
use mathlib.Core.List.{List, [], ◌∷◌, map}
use Prim.Native.Nat.{ℕ, suc, ◌+◌, ◌-◌, ◌≤◌, ◌<◌}
use native.Mathlib.Omega.{arith}
use lib.ListN.{length, get_or, set}
use Rattle.bits.specs.Fields.{link_state}
use Rattle.growth.specs.Grow.{covered}
use Rattle.covering.specs.Entries.{Period}
use Rattle.covering.specs.Chained.{entry_at, times, Chain, Chained, to_front}
use Rattle.covering.proofs.Runs.{front, begun}
use Rattle.covering.proofs.Chain.{chains_all, chain_gone}
use Rattle.covering.proofs.Trail.{covered_at, runs_none, runs_some, runs_rest, following, following_is}
use Rattle.covering.proofs.Between.{Between, front_low, chain_back, here, past, without, fronted}

module _ (covers : Period → Period → Bool) (t : List Period) (c : Period) where
  pub record Scanning (chains : List ℕ) (place next : ℕ) : Type 0 where
    pub done : List ℕ
    pub run : List ℕ
    pub between : Between covers t c chains done run
    pub place_is : place ≡ front (link_state c.link) done
    pub next_is : next ≡ get_or chains place 0

  module _ (low : link_state c.link < 16) where
    pub scan_start : {chains : List ℕ} → Chained covers t [] chains → Scanning chains (link_state c.link) (get_or chains (link_state c.link) 0)
    unfolding times
    scan_start {chains} chained = record {
      done = [];
      run = own.run;
      between = record {
        before = begun;
        after = own.runs;
        short = omega (arith, own.short);
        once = λ i. omega (arith, own.once i);
        inside = λ i m. own.inside i (omega (arith, m));
        enough = λ d e. ap (λ (b : Bool). covers c d || b) (own.enough d e);
        left = own.enough c refl;
        others = λ q l h. chained.at q l;
      };
      place_is = refl;
      next_is = refl;
    }
      where
        own : Chain covers t [] chains (link_state c.link)
        own = chained.at (link_state c.link) low

    -- ---- the scan stands at the end, or at an entry

    record Standing (chains done : List ℕ) (next : ℕ) : Type 0 where
      i : ℕ
      rest : List ℕ
      next_is : next ≡ suc i
      between : Between covers t c chains done (i ∷ rest)

    module _ {place next : ℕ} {chains : List ℕ} (s : Scanning chains place next) where
      from_place : next ≡ get_or chains (front (link_state c.link) s.done) 0
      from_place = s.next_is ∙ ap (λ (p : ℕ). get_or chains p 0) s.place_is

      -- no entry of the chain covers the candidate
      pub scan_end : next ≡ 0 → (covered covers t c ≡ false) × Chained covers t (c ∷ []) chains
      scan_end none = at s.run s.between
        where
          at : (run : List ℕ) → Between covers t c chains s.done run → (covered covers t c ≡ false) × Chained covers t (c ∷ []) chains
          at (i ∷ run) b = absurd (omega (arith, runs_some b.after, from_place, none))
          at [] b = (b.left, chains_all covers (chain_back covers t c low b (c ∷ []) (enough b)) (λ q l h. chain_gone covers (c ∷ []) (b.others q l h)))
            where
              enough : Between covers t c chains s.done [] → (d : Period) → link_state d.link ≡ link_state c.link
                  → ((covers c d || false) || covered covers t d) ≡ ((covers c d || false) || (covered covers (map (entry_at t) s.done) d || false))
              enough b d e = rw (or-false (covers c d)) (b.enough d e)

      pub place_low : place < 16 + length t
      place_low = omega (arith, s.place_is, front_low covers t c low s.between)

      module _ (some : 0 < next) where
        st : Standing chains s.done next
        st = at s.run s.between
          where
            at : (run : List ℕ) → Between covers t c chains s.done run → Standing chains s.done next
            at [] b = absurd (omega (arith, runs_none b.after, from_place, some))
            at (i ∷ run) b = record { i = i; rest = run; next_is = from_place ∙ runs_some b.after; between = b }

        is : st.i ≡ next - 1
        is = omega (arith, st.next_is)

        pub entry_low : next - 1 < length t
        entry_low = omega (arith, (here covers t c low st.between).0, is)

        pub entry_state : link_state (entry_at t (next - 1)).link ≡ link_state c.link
        entry_state = subst (λ (j : ℕ). link_state (entry_at t j).link ≡ link_state c.link) is (here covers t c low st.between).1

        beyond : 16 + st.i ≡ next + 15
        beyond = omega (arith, st.next_is)

        after_is : (f : ℕ) → length t ≤ f → following f chains place ≡ suc (length st.rest)
        after_is f l = ap (following f chains) s.place_is ∙ following_is f st.between.after (omega (arith, st.between.short))

        -- it does not cover the candidate
        module _ (misses : covers (entry_at t (next - 1)) c ≡ false) where
          missed : covers (entry_at t st.i) c ≡ false
          missed = ap (λ (j : ℕ). covers (entry_at t j) c) is ∙ misses

          pub scan_pass : Scanning chains (next + 15) (get_or chains (next + 15) 0)
          scan_pass = record { done = st.i ∷ s.done; run = st.rest; between = past covers t c low st.between missed; place_is = sym beyond; next_is = refl }

          pub pass_less : (f : ℕ) → length t ≤ f → following f chains (next + 15) < following f chains place
          pass_less f l =
              let rest = ap (following f chains) (sym beyond) ∙ following_is f (runs_rest st.between.after) (omega (arith, st.between.short)) in
              omega (arith, after_is f l, rest)

          -- the candidate covers it: it is taken out
          module _ (fits : 16 + length t ≤ length chains) (under : (d : Period) → covers (entry_at t (next - 1)) d ≡ true → covers c d ≡ true) where
            taken_out : Between covers t c (set chains place (get_or chains (next + 15) 0)) s.done st.rest
            taken_out =
                subst (λ (p : ℕ). Between covers t c (set chains p (get_or chains (next + 15) 0)) s.done st.rest) (sym s.place_is)
                (subst (λ (k : ℕ). Between covers t c (set chains (front (link_state c.link) s.done) (get_or chains k 0)) s.done st.rest) beyond
                (without covers t c low st.between fits missed (λ d. subst (λ (j : ℕ). covers (entry_at t j) d ≡ true → covers c d ≡ true) (sym is) (under d))))

            pub scan_drop : Scanning (set chains place (get_or chains (next + 15) 0)) place (get_or (set chains place (get_or chains (next + 15) 0)) place 0)
            scan_drop = record { done = s.done; run = st.rest; between = taken_out; place_is = s.place_is; next_is = refl }

            pub drop_less : (f : ℕ) → length t ≤ f → following f (set chains place (get_or chains (next + 15) 0)) place < following f chains place
            drop_less f l =
                let rest = ap (following f (set chains place (get_or chains (next + 15) 0))) s.place_is ∙ following_is f taken_out.after (omega (arith, st.between.short)) in
                omega (arith, after_is f l, rest)

        -- it covers the candidate: it comes to the front
        pub scan_hit : 16 + length t ≤ length chains → covers (entry_at t (next - 1)) c ≡ true → ((d : Period) → covers c d ≡ true → covers (entry_at t (next - 1)) d ≡ true)
            → (covered covers t c ≡ true) × Chained covers t [] (to_front chains (link_state c.link) place)
        unfolding to_front
        scan_hit fits hits over = (covered_at covers t (next - 1) c entry_low hits, chained)
          where
            cut : ℕ → ℕ → List ℕ
            cut p k = set chains p (get_or chains k 0)

            shape : ℕ → ℕ → ℕ → List ℕ
            shape p k n = set (set (cut p k) k (get_or (cut p k) (link_state c.link) 0)) (link_state c.link) n

            same : shape (front (link_state c.link) s.done) (16 + st.i) (suc st.i) ≡ shape place (get_or chains place 0 + 15) (get_or chains place 0)
            same =
                ap₂ (λ (p k : ℕ). shape p k (suc st.i)) (sym s.place_is) (beyond ∙ ap (λ (n : ℕ). n + 15) s.next_is)
                ∙ ap (shape place (get_or chains place 0 + 15)) (sym st.next_is ∙ s.next_is)

            chained : Chained covers t [] (to_front chains (link_state c.link) place)
            chained =
                subst (Chained covers t []) same
                (fronted covers t c low st.between fits (ap (λ (j : ℕ). covers (entry_at t j) c) is ∙ hits) (λ d. subst (λ (j : ℕ). covers c d ≡ true → covers (entry_at t j) d ≡ true) (sym is) (over d)))
