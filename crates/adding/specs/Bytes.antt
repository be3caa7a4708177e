-- A file of four-byte records, byte by byte (document 01, "Files"). Assumes nothing.
use Rattle.std.specs.Prelude.{List, ℕ, ◌+◌, ◌*◌, get_or}

-- byte j of record i
abbrev pub byte : List ℕ → ℕ → ℕ → ℕ
byte s i j = get_or s (4 * i + j) 0

-- the letters `I`, `F` and `T`
abbrev pub kind_i : ℕ
kind_i = 0x49

abbrev pub kind_f : ℕ
kind_f = 0x46

abbrev pub kind_t : ℕ
kind_t = 0x54
