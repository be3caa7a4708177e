-- Büchi automata, the lassos that they accept, and what the two verdicts claim (document 01, "Acceptance"). Assumes nothing.
use Rattle.std.specs.Prelude.{◌≡◌, Bool, true, ◌||◌, List, [], ◌∷◌, ◌++◌, ℕ, zero, suc, ◌≤◌, length}

abbrev pub Word : Type 0
Word = List ℕ

-- v repeated k times
abbrev pub power : Word → ℕ → Word
power v zero = []
power v (suc k) = v ++ power v k

-- A state, a letter: a number. `step p x q`: from p by letter x to q. `mark p x q`: that transition is itself accepting (none in the base).
pub record Aut : Type 0 where
  pub start : ℕ
  pub step : ℕ → ℕ → ℕ → Bool
  pub final : ℕ → Bool
  pub mark : ℕ → ℕ → ℕ → Bool

-- p reaches r by a word: a path along it; the empty word leads from p to p only
pub data Reach (A : Aut) : ℕ → Word → ℕ → Type 0 where
  here : {p : ℕ} → Reach A p [] p
  move : {p x q : ℕ} {w : Word} {r : ℕ} → A.step p x q ≡ true → Reach A q w r → Reach A p (x ∷ w) r

-- the same through acceptance: some path meets an accepting state, both ends counted, or takes a marked transition
pub data Through (A : Aut) : ℕ → Word → ℕ → Type 0 where
  accepting : {p : ℕ} {w : Word} {r : ℕ} → A.final p ≡ true → Reach A p w r → Through A p w r
  marked : {p x q : ℕ} {w : Word} {r : ℕ} → A.step p x q ≡ true → A.mark p x q ≡ true → Reach A q w r → Through A p (x ∷ w) r
  later : {p x q : ℕ} {w : Word} {r : ℕ} → A.step p x q ≡ true → Through A q w r → Through A p (x ∷ w) r

-- the lasso (u, v) is accepted: u and i copies of v lead to a state, and k copies, one at least, lead from it to itself through acceptance
pub record Accepted (A : Aut) (u v : Word) : Type 0 where
  pub at : ℕ
  pub i : ℕ
  pub k : ℕ
  pub some_round : 1 ≤ k
  pub stem : Reach A A.start (u ++ power v i) at
  pub loop : Through A at (power v k) at

-- acceptance at a transition's start: it leaves an accepting state or is marked
unfoldable pub opens : Aut → ℕ → ℕ → ℕ → Bool
opens A s x q = A.final s || A.mark s x q

-- a period from s to r: a word of at least one letter along a path that meets acceptance at its first transition
pub data Period (A : Aut) (s : ℕ) : Word → ℕ → Type 0 where
  starts : {x q : ℕ} {w : Word} {r : ℕ} → A.step s x q ≡ true → opens A s x q ≡ true → Reach A q w r → Period A s (x ∷ w) r

-- included: every lasso that A accepts, B accepts
pub record Included (A B : Aut) : Type 0 where
  pub every : (u v : Word) → 1 ≤ length v → Accepted A u v → Accepted B u v

-- shown: a lasso that A accepts and B does not
pub record Shown (A B : Aut) (u v : Word) : Type 0 where
  pub some_letter : 1 ≤ length v
  pub by_model : Accepted A u v
  pub not_by_rule : Accepted B u v → ⊥
