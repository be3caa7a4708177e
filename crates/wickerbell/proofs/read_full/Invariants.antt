-- What is read stands within the buffer, whose length stays.
use Rattle.std.proofs.Common.{◌≡◌, ◌≤◌, length}
use Rattle.wickerbell.proofs.read_full.Given as goal

abbrev pub invariant-loop : goal.invariant-loop
invariant-loop g l = (l.done ≤ length l.buffer) × (length l.buffer ≡ length l.fn.buffer)
