-- The fields of a stem entry and of a period link, as document 01 lays them out ("Room"). Assumes nothing.
use Rattle.std.specs.Prelude.{ℕ, ◌+◌, ◌*◌, ◌/◌, ◌%◌}

abbrev pub stem_entry : ℕ → ℕ → ℕ → ℕ → ℕ
stem_entry target state letter parent = target + 256 * state + 4096 * letter + 65536 * parent

abbrev pub stem_target : ℕ → ℕ
stem_target e = e % 256

abbrev pub stem_state : ℕ → ℕ
stem_state e = e / 256 % 16

abbrev pub stem_letter : ℕ → ℕ
stem_letter e = e / 4096 % 16

-- of 12 bits, since S is at most 4,096
abbrev pub stem_parent : ℕ → ℕ
stem_parent e = e / 65536 % 4096

abbrev pub period_link : ℕ → ℕ → ℕ → ℕ
period_link state letter parent = state + 16 * letter + 65536 * parent

abbrev pub link_state : ℕ → ℕ
link_state e = e % 16

abbrev pub link_letter : ℕ → ℕ
link_letter e = e / 16 % 16

abbrev pub link_parent : ℕ → ℕ
link_parent e = e / 65536
