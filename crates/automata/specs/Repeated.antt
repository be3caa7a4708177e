-- The states from which a period, repeated for ever, is accepted, read off its context (argument: a state that copies of the period lead to, one copy of
-- it through acceptance from there, and copies of it back). Assumes nothing.
use Rattle.std.specs.Prelude.{◌&&◌, ℕ, zero, suc, ◌*◌, ◌^◌}
use Rattle.bits.specs.Bits.{weight, set_of, any}
use Rattle.bits.specs.Sets.{union, meet, meets, moved}
use Rattle.bits.specs.Pairs.{pair, row, pairs}
use Rattle.acceptance.specs.Contexts.{Context}

module _ (n : ℕ) where
  -- the pairs of c, each row moved by the step that the pairs of `by` are
  abbrev pub moved_rows : ℕ → ℕ → ℕ
  moved_rows by c = pairs n (λ q. moved n (pair n by) (row n c q))

  -- the pairs of c, and those of d that end in a member of a
  abbrev pub met : ℕ → ℕ → ℕ → ℕ
  met c d a = pairs n (λ q. union n (row n c q) (meet n (row n d q) a))

  -- the pairs of r, and those of c that end in p, led on from p to the members of y
  unfoldable pub led_on : ℕ → ℕ → ℕ → ℕ → ℕ
  led_on r c p y = pairs n (λ q. union n (row n r q) (weight (pair n c q p) * y))

  -- the pairs of r, and those that two of them make which meet in k
  unfoldable pub via : ℕ → ℕ → ℕ
  via r k = led_on r r k (row n r k)

  -- Warshall: where pairs of r lead, none or more, with only states below k on the way
  unfoldable pub paths_over : ℕ → ℕ → ℕ
  paths_over r zero = pairs n (λ q. union n (row n r q) (2 ^ q))
  paths_over r (suc k) = via (paths_over r k) k

  -- where pairs of r lead, none or more
  unfoldable pub closure : ℕ → ℕ
  closure r = paths_over r n

  -- the states from which a pair of `through` leads to one from which paths lead back
  unfoldable pub turning : ℕ → ℕ → ℕ
  turning paths through = set_of (λ p. any (λ q. pair n through p q && pair n paths q p) n) n

  -- the states from which paths lead into x
  unfoldable pub leading_into : ℕ → ℕ → ℕ
  leading_into paths x = set_of (λ q. meets n (row n paths q) x) n

  unfoldable pub repeated_by : ℕ → ℕ → ℕ
  repeated_by paths through = leading_into paths (turning paths through)

  -- the states from which a period with the context c, repeated for ever, is accepted
  unfoldable pub repeated : Context → ℕ
  repeated c = repeated_by (closure c.reach) c.through
