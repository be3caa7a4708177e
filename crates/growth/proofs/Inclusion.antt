-- The walk's verdict: where no table lacks room and B accepts every lasso that is tested, B accepts every lasso that A accepts; and a lasso
-- that is tested is one that A accepts. Assumes nothing.
use mathlib.Core.Path.{◌≡◌, refl, sym, subst}
use mathlib.Core.Bool.{true}
use mathlib.Core.List.{List}
use Prim.Native.Nat.{ℕ, ◌^◌, ◌≤◌}
use lib.ListN.{length}
use Rattle.bits.specs.Sets.{SetIs, subset}
use Rattle.acceptance.specs.Lasso.{Word, Aut, Reach, Accepted, opens, Period, starts, Included}
use Rattle.acceptance.specs.Contexts.{Small, Context, Describes, target}
use Rattle.acceptance.proofs.Paths.{sound, period_long}
use Rattle.acceptance.proofs.Targets.{target_is, below_subset, coded}
use Rattle.acceptance.proofs.Complete.{Bases, Tested, complete}
use Rattle.growth.specs.Grow.{Complete, entries}
use Rattle.growth.specs.Numbered.{Bounded}
use Rattle.growth.specs.Nodes.{Node}
use Rattle.growth.specs.Tables.{smallest, largest, stem_nodes, period_nodes}
use Rattle.growth.proofs.Entries.{At, Each}
use Rattle.growth.proofs.Basis.{Entry}
use Rattle.growth.proofs.Nodes.{True}
use Rattle.growth.proofs.Stems.{Targeted, smallest_kind, largest_kind, stems_true, stems_basis}
use Rattle.growth.proofs.Periods.{periods_true, periods_basis}

-- a state of A from which a period can start
pub record Opening (A : Aut) (s : ℕ) : Type 0 where
  pub letter : ℕ
  pub next : ℕ
  pub goes : A.step s letter next ≡ true
  pub accepts : opens A s letter next ≡ true

-- the word w, at the state s, is one of the entries
pub record Listed {L : Type 0} (t : List (Node L)) (s : ℕ) (w : Word) : Type 0 where
  pub index : ℕ
  pub node : Node L
  pub stands : At t index node
  pub at_state : node.state ≡ s
  pub its_word : node.word ≡ w

module _ (letters states n : ℕ) (A B : Aut) (S P : ℕ) where
  abbrev pub smallest_stems : List (Node ℕ)
  smallest_stems = entries (stem_nodes letters states n A B (smallest n) S)

  abbrev pub largest_stems : List (Node ℕ)
  largest_stems = entries (stem_nodes letters states n A B (largest n) S)

  abbrev pub periods_on : ℕ → ℕ → List (Node Context)
  periods_on s rows = entries (period_nodes letters states n A B s rows P)

  -- no table of the walk lacks room: U, W, and for each state s where a period can start and each entry w of W there, the period table of s and w's target
  pub record Walked : Type 0 where
    pub smallest_complete : Complete (stem_nodes letters states n A B (smallest n) S)
    pub largest_complete : Complete (stem_nodes letters states n A B (largest n) S)
    pub periods_complete : {s : ℕ} {w : Word} (e : Listed largest_stems s w) → Opening A s → Complete (period_nodes letters states n A B s e.node.load P)

  -- one lasso that the walk tests: u in U and w in W at one state, u's target inside w's, and v in w's period table at that state
  pub record Test (u v : Word) : Type 0 where
    pub state : ℕ
    pub opening : Opening A state
    pub w : Word
    pub w_in : Listed largest_stems state w
    pub u_in : Listed smallest_stems state u
    pub inside : subset n u_in.node.load w_in.node.load ≡ true
    pub v_in : Listed (periods_on state w_in.node.load) state v

pub opened : {A : Aut} {s q : ℕ} {v : Word} → Period A s v q → Opening A s
opened (starts {x = x} {q = q} g o h) = record { letter = x; next = q; goes = g; accepts = o }

module _ {L : Type 0} {t : List (Node L)} {s : ℕ} {w : Word} where
  listed : {Less : Word → Word → Type 0} (e : Entry Less t s w) → Listed t s e.node.word
  listed e = record { index = e.index; node = e.node; stands = e.stands; at_state = e.at_state; its_word = refl }

  module _ {Ends : Word → ℕ → Type 0} {Says : L → Word → Type 0} (true-all : Each (True Ends Says) t) (e : Listed t s w) where
    listed_ends : Ends w s
    listed_ends = subst (λ (u : Word). Ends u s) e.its_word (subst (Ends e.node.word) e.at_state (true-all.each e.stands).ends)

    listed_says : Says e.node.load w
    listed_says = subst (Says e.node.load) e.its_word (true-all.each e.stands).says

module _ {letters states n : ℕ} {A B : Aut} (bound : Bounded letters states A) (small : Small n B) (S P : ℕ) where
  smallest_true : Each (True (Reach A A.start) (Targeted n B)) (smallest_stems letters states n A B S P)
  smallest_true = stems_true bound small (smallest_kind small) S

  largest_true : Each (True (Reach A A.start) (Targeted n B)) (largest_stems letters states n A B S P)
  largest_true = stems_true bound small (largest_kind small) S

  -- the rows that w's period tables are compared on are the states that w reaches
  rows_of : {s : ℕ} {w : Word} (e : Listed (largest_stems letters states n A B S P) s w) → SetIs n e.node.load (Reach B B.start w)
  rows_of {w = w} e = subst (λ (c : ℕ). SetIs n c (Reach B B.start w)) (sym (listed_says largest_true e)) (target_is small w)

  -- ---- a test reads u's target and v's context

  module _ {u v : Word} (t : Test letters states n A B S P u v) where
    pub test_target : t.u_in.node.load ≡ target n B u
    test_target = listed_says smallest_true t.u_in

    periods : Each (True (Period A t.state) (Describes n B)) (periods_on letters states n A B S P t.state t.w_in.node.load)
    periods = periods_true bound small t.state (rows_of t.w_in) P

    pub test_context : Describes n B t.v_in.node.load v
    test_context = listed_says periods t.v_in

    -- the lasso is one of A, whether the tables ended or lacked room
    pub shown : Accepted A u v × (1 ≤ length v)
    shown = let p = listed_ends periods t.v_in in (sound (listed_ends smallest_true t.u_in) p, period_long p)

  -- ---- included: the tables ended, and no lasso that is tested is rejected

  module _ (walked : Walked letters states n A B S P) where
    listed_period : ℕ → Word → Word → Type 0
    listed_period s w v = (e : Listed (largest_stems letters states n A B S P) s w) × Opening A s × Listed (periods_on letters states n A B S P s e.node.load) s v

    bases : Bases A B (Listed (smallest_stems letters states n A B S P)) (Listed (largest_stems letters states n A B S P)) listed_period
    unfolding listed_period
    bases = record {
      smaller = λ h. let e = stems_basis bound small (smallest_kind small) S walked.smallest_complete h in (e.node.word, listed e, e.below);
      larger = λ h. let e = stems_basis bound small (largest_kind small) S walked.largest_complete h in (e.node.word, listed e, e.below);
      periods = λ {s = s} l p.
          let e = periods_basis bound small s (rows_of l) P (walked.periods_complete l (opened p)) p in
          (e.node.word, (l, opened p, listed e), e.below);
    }

    tests : ((u v : Word) → Test letters states n A B S P u v → Accepted B u v) → Tested B (Listed (smallest_stems letters states n A B S P)) (Listed (largest_stems letters states n A B S P)) listed_period
    unfolding listed_period
    tests h = record {
      accepted = λ {s} {u} {w} {v} a b c f. h u v (record {
        state = s;
        opening = c.1;
        w = w;
        w_in = c.0;
        u_in = a;
        inside = rw (listed_says smallest_true a, listed_says largest_true c.0) (below_subset small u w f);
        v_in = c.2;
      });
    }

    pub included : ((u v : Word) → Test letters states n A B S P u v → Accepted B u v) → Included A B
    included h = complete bases (tests h) (2 ^ n) (coded small)
