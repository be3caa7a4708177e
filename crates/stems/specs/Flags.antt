-- The flags, one bit for each state of A and each target, eight in a byte: which candidates the entries there cover, and the flags that an entry raises
-- when it is appended. Assumes nothing.
use Rattle.std.specs.Prelude.{◌≡◌, Bool, ◌||◌, List, ℕ, ◌/◌, ◌%◌, ◌<◌, length, get_or}
use Rattle.bits.specs.Bits.{bit}
use Rattle.growth.specs.Grow.{covered}
use Rattle.stems.specs.Stems.{stem_covers}

-- the flag at i
abbrev pub flag_at : List ℕ → ℕ → Bool
flag_at marks i = bit (get_or marks (i / 8) 0) (i % 8)

-- it is up exactly where the entries cover a candidate with the state and the target of i
pub record Marked (largest : Bool) (es marks : List ℕ) : Type 0 where
  pub long : length marks ≡ 512
  pub flag : (i : ℕ) → i < 4096 → flag_at marks i ≡ covered (stem_covers largest) es i

-- the flags of what the entry covers are raised
pub record Raised (largest : Bool) (entry : ℕ) (old new : List ℕ) : Type 0 where
  pub long : length new ≡ length old
  pub flag : (i : ℕ) → i < 4096 → flag_at new i ≡ (stem_covers largest entry i || flag_at old i)
