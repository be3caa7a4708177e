-- The scan by masks: what a candidate lacks and what it has of the rows, in place of its context. Assumes nothing.
use mathlib.Core.Path.{◌≡◌, refl, sym, ap, ◌∙◌, subst}
use mathlib.Core.Bool.{Bool, true, false, cond}
use mathlib.Core.List.{List, []}
use Prim.Native.Nat.{ℕ, ◌+◌, ◌-◌, ◌*◌, ◌^◌, ◌≤◌, ◌<◌}
use native.Mathlib.Omega.{arith}
use lib.ListN.{length, get_or, set}
use lib.Seq.{get_or-set_same}
use Rattle.bits.specs.Fields.{link_state}
use Rattle.acceptance.specs.Contexts.{Context}
use Rattle.automata.specs.declared.Context.{Context as Held}
use Rattle.automata.specs.Loaded.{of_pairs}
use Rattle.covering.specs.Entries.{Period, context_in, entry_in, held}
use Rattle.covering.specs.Masks.{lacking, having, apart, holds, covers}
use Rattle.covering.specs.Chained.{entry_at, Chained, to_front}
use Rattle.covering.specs.Sought.{Sought, Told}
use Rattle.covering.proofs.Entries.{held_length, held_at}
use Rattle.covering.proofs.Masks.{covers_trans, covers_apart, covers_holds}
use Rattle.covering.proofs.Chain.{chained_beyond}
use Rattle.covering.proofs.Trail.{following}
use Rattle.covering.proofs.Scanning.{Scanning, scan_start, scan_end, scan_hit, scan_pass, scan_drop, pass_less, drop_less, place_low, entry_low, entry_state}

-- a candidate, and the first n entries
abbrev pub sought : (rows n link : ℕ) (links : List ℕ) (c : Held ℕ) {contexts chains : List ℕ} {q : ℕ} {lacks has : Context}
    → (n ≤ length links) × (2 * n ≤ length contexts) × (2 * (16 + n) ≤ length chains) × (length chains ≤ 131102)
    → Chained (covers rows) (held n links contexts) [] chains → q ≡ link_state link → lacks ≡ lacking rows (of_pairs c) → has ≡ having rows (of_pairs c)
    → c.reach < 2 ^ 64 → c.through < 2 ^ 64 → Sought contexts chains q lacks has
sought rows n link links c roomy h e e' e'' r t = record {
  rows = rows;
  n = n;
  links = links;
  candidate = record { link = link; context = of_pairs c };
  contexts_fit = roomy.1;
  chains_fit = omega arith;
  few = omega arith;
  chained = h;
  at = e;
  lacks_is = e';
  has_is = e'';
  reach_lt = r;
  through_lt = t;
}

-- what is told of it holds when something is written beyond the entries' places
pub told_beyond : {contexts chains : List ℕ} {q : ℕ} {lacks has : Context} (s : Sought contexts chains q lacks has) {b b' : Bool} {left : List ℕ} → Told s b left → b ≡ b'
    → (w v : ℕ) → 16 + s.n ≤ w → Told s b' (set left w v)
told_beyond {contexts} s told is w v l =
    let said = rw is at told in
    record { value = said.value; chained_after = chained_beyond _ w v said.chained_after (omega (arith, held_length s.links contexts s.n)) }

-- the scan stands at the place for whichever candidate, of whichever entries, and what it reads and writes next is in bounds
pub record Masked (contexts chains₀ : List ℕ) (q : ℕ) (lacks has : Context) (chains : List ℕ) (place next : ℕ) : Type 0 where
  pub for : (s : Sought contexts chains₀ q lacks has) → Scanning (covers s.rows) (held s.n s.links contexts) s.candidate chains place next
  pub kept : length chains ≡ length chains₀
  pub place_fits : place < length chains
  pub next_is : next ≡ get_or chains place 0
  pub next_fits : 0 < next → next + 15 < length chains
  pub context_fits : 0 < next → 2 * next ≤ length contexts
  pub few : 0 < next → next ≤ 65535

module _ {contexts chains₀ : List ℕ} {q : ℕ} {lacks has : Context} where
  module _ (s : Sought contexts chains₀ q lacks has) where
    abbrev table : List Period
    table = held s.n s.links contexts

    long : length table ≡ s.n
    long = held_length s.links contexts s.n

    low : link_state s.candidate.link < 16
    low = omega arith

    -- the bounds are those of the entries of the one candidate that is sought
    masked : {chains : List ℕ} {place next : ℕ} → length chains ≡ length chains₀
        → ((s : Sought contexts chains₀ q lacks has) → Scanning (covers s.rows) (held s.n s.links contexts) s.candidate chains place next) → Masked contexts chains₀ q lacks has chains place next
    masked kept for =
        let sc = for s in
        record {
          for = for;
          kept = kept;
          place_fits = omega (arith, place_low (covers s.rows) table s.candidate low sc, kept, long, s.chains_fit);
          next_is = sc.next_is;
          next_fits = λ some. omega (arith, entry_low (covers s.rows) table s.candidate low sc some, kept, long, s.chains_fit);
          context_fits = λ some. omega (arith, entry_low (covers s.rows) table s.candidate low sc some, long, s.contexts_fit);
          few = λ some. omega (arith, entry_low (covers s.rows) table s.candidate low sc some, long, s.few);
        }

    module _ {chains : List ℕ} {place next : ℕ} (m : Masked contexts chains₀ q lacks has chains place next) where
      sc : Scanning (covers s.rows) table s.candidate chains place next
      sc = m.for s

      pub masked_end : next ≡ 0 → Told s false chains
      masked_end e =
          let (is, chained) = scan_end (covers s.rows) table s.candidate low sc e in
          record { value = sym is; chained_after = chained }

      module _ (some : 0 < next) where
        next_low : next - 1 < s.n
        next_low = omega (arith, entry_low (covers s.rows) table s.candidate low sc some, long)

        entry_is : entry_at table (next - 1) ≡ entry_in s.links contexts (next - 1)
        unfolding entry_at
        entry_is = held_at s.links contexts s.n (next - 1) _ next_low

        same : link_state (entry_at table (next - 1)).link ≡ link_state s.candidate.link
        same = entry_state (covers s.rows) table s.candidate low sc some

        -- the two tests
        over_is : covers s.rows (entry_at table (next - 1)) s.candidate ≡ apart (context_in contexts (next - 1)) lacks
        over_is =
            covers_apart s.rows (entry_at table (next - 1)) s.candidate same
            ∙ ap (λ (e : Period). apart e.context (lacking s.rows s.candidate.context)) entry_is ∙ ap (apart (context_in contexts (next - 1))) (sym s.lacks_is)

        under_is : covers s.rows s.candidate (entry_at table (next - 1)) ≡ holds (context_in contexts (next - 1)) has
        under_is =
            covers_holds s.rows s.candidate (entry_at table (next - 1)) (sym same)
            ∙ ap (λ (e : Period). holds e.context (having s.rows s.candidate.context)) entry_is ∙ ap (holds (context_in contexts (next - 1))) (sym s.has_is)

        fuel : length table ≤ length chains₀
        fuel = omega (arith, long, s.chains_fit)

        fits : 16 + length table ≤ length chains
        fits = omega (arith, m.kept, long, s.chains_fit)

        pub masked_hit : apart (context_in contexts (next - 1)) lacks ≡ true → {chains' : List ℕ} → chains' ≡ to_front chains q place → Told s true chains'
        masked_hit e to =
            let (is, chained) = scan_hit (covers s.rows) table s.candidate low sc some fits (over_is ∙ e)
            (λ d h. covers_trans s.rows (entry_at table (next - 1)) s.candidate d s.reach_lt s.through_lt (over_is ∙ e) h) in
            record { value = sym is; chained_after = rw (to, s.at) chained }

        module _ (misses : apart (context_in contexts (next - 1)) lacks ≡ false) (small : (i : ℕ) → get_or contexts i 0 < 2 ^ 64) where
          -- the step leaves less to follow
          step : {place' after : ℕ} {chains' : List ℕ} → after ≡ get_or chains (next + 15) 0 → place' ≡ cond (holds (context_in contexts (next - 1)) has) place (next + 15)
              → chains' ≡ cond (holds (context_in contexts (next - 1)) has) (set chains place after) chains
              → Scanning (covers s.rows) table s.candidate chains' place' after × (following (length chains₀) chains' place' < following (length chains₀) chains place)
          step a p e = rw (p, e, a) (at (holds (context_in contexts (next - 1)) has) under_is)
            where
              missed : covers s.rows (entry_at table (next - 1)) s.candidate ≡ false
              missed = over_is ∙ misses

              under : covers s.rows s.candidate (entry_at table (next - 1)) ≡ true → (d : Period) → covers s.rows (entry_at table (next - 1)) d ≡ true → covers s.rows s.candidate d ≡ true
              under h d =
                  covers_trans s.rows s.candidate (entry_at table (next - 1)) d
                  (subst (λ (e : Period). e.context.reach < 2 ^ 64) (sym entry_is) (small (2 * (next - 1)))) (subst (λ (e : Period). e.context.through < 2 ^ 64) (sym entry_is) (small (2 * (next - 1) + 1))) h

              at : (b : Bool) → covers s.rows s.candidate (entry_at table (next - 1)) ≡ b
                  → Scanning (covers s.rows) table s.candidate (cond b (set chains place (get_or chains (next + 15) 0)) chains) (cond b place (next + 15))
                  (get_or chains (next + 15) 0)
                  × (following (length chains₀) (cond b (set chains place (get_or chains (next + 15) 0)) chains) (cond b place (next + 15)) < following (length chains₀) chains place)
              at true h = (
                subst (Scanning (covers s.rows) table s.candidate (set chains place (get_or chains (next + 15) 0)) place)
                    (get_or-set_same chains place (get_or chains (next + 15) 0) 0 (omega (arith, m.place_fits)))
                    (scan_drop (covers s.rows) table s.candidate low sc some missed fits (under h)),
                drop_less (covers s.rows) table s.candidate low sc some missed fits (under h) (length chains₀) fuel,
              )
              at false h = (scan_pass (covers s.rows) table s.candidate low sc some missed, pass_less (covers s.rows) table s.candidate low sc some missed (length chains₀) fuel)

  pub masked_start : Sought contexts chains₀ q lacks has → Masked contexts chains₀ q lacks has chains₀ q (get_or chains₀ q 0)
  masked_start s = masked s refl (λ s. rw s.at (scan_start (covers s.rows) (table s) s.candidate (low s) s.chained))

  -- one entry passed, or dropped
  module _ (s : Sought contexts chains₀ q lacks has) {chains : List ℕ} {place next : ℕ} (m : Masked contexts chains₀ q lacks has chains place next) (some : 0 < next)
      (misses : apart (context_in contexts (next - 1)) lacks ≡ false) (small : (i : ℕ) → get_or contexts i 0 < 2 ^ 64)
      {place' after : ℕ} {chains' : List ℕ} (a : after ≡ get_or chains (next + 15) 0)
      (p : place' ≡ cond (holds (context_in contexts (next - 1)) has) place (next + 15))
      (e : chains' ≡ cond (holds (context_in contexts (next - 1)) has) (set chains place after) chains) where
    pub masked_less : following (length chains₀) chains' place' < following (length chains₀) chains place
    masked_less = (step s m some misses small a p e).1

    pub masked_on : length chains' ≡ length chains → Masked contexts chains₀ q lacks has chains' place' after
    masked_on same = masked s (same ∙ m.kept) (λ s. (step s m some misses small a p e).0)
