-- What it means that a contract rules an answer out. Assumes nothing.
use denote.Ref.{Bor}

-- a contract, of the arguments, the result and what is lent at exit, at the lifetimes k, does not allow the result r at the arguments a. A function's
-- contract, as it stands in the code, is `Post` of its generated module `Reads`
abbrev pub Refuses : {K : Type 0} {A R X : K → Type 0} → ((k : K) → A k → R k → X k → Type 0) → {k : K} → A k → R k → Type 0
Refuses {X = X} post {k} a r = (x : X k) → post k a r x → ⊥

-- a reference to the value v, somewhere
abbrev pub lent : {X : Type 0} → X → Bor X
lent v = record { ref_ptr = (0, 0); now = v }
