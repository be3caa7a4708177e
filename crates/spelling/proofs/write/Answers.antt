-- `spelling::write` meets its contract. The loop's invariant: the word of i and what is written after it are the whole word. Assumes nothing.
use native.Mathlib.Nat.{le_of_eq}
use Rattle.growth.specs.Lent.{over}
use borrow.Rule.Slice.PartMut.{put_mid}
use Rattle.spelling.proofs.Back.{put_back, put_front}
use lib.Seq.{length-take-le}
use lib.ListN.{take}
use Rattle.spelling.proofs.Chain.{step, spelled_top, spelled_length, spelled_word}
use mathlib.Core.Logic.{inr}
use mathlib.Core.Path.{◌≡◌, sym, ap, ap₂, ◌∙◌}
use mathlib.Core.List.{List, [], ◌∷◌, ◌++◌, append-nil, append_assoc}
use lib.ListN.{drop, drop_of_length-le}
use native.Mathlib.Omega.{arith}
use Rattle.spelling.proofs.Chain.{spelled}
use borrow.Author.Rules.{rules}
use Prim.Native.Nat.{ℕ, ◌-◌}
use lib.ListN.{length}
use Rattle.spelling.proofs.write.Goals as goal

pub slice_bounds-prefix-end : goal.slice_bounds-prefix-end
slice_bounds-prefix-end g c =
    let word = spelled_word g.E.Entry.links c.args.table.now c.requires.backward c.args.entry c.requires.in_bounds in
    omega (arith, ap length word, spelled_length g.E.Entry.links c.args.table.now c.args.entry, c.letters-n.ensures)

pub loop-i-init : goal.loop-i-init
loop-i-init g c =
    let n = c.letters-n.result in
    let word = spelled_word g.E.Entry.links c.args.table.now c.requires.backward c.args.entry c.requires.in_bounds in
    let same : n ≡ length (spelled g.E.Entry.links c.args.table.now c.args.entry) = c.letters-n.ensures ∙ sym (ap length word) in
    let long : length (take (n - 0) c.args.out.now) ≡ n = length-take-le (n - 0) c.args.out.now (omega (arith, same, spelled_length g.E.Entry.links c.args.table.now c.args.entry)) ∙ omega arith in
    (c.top-end.ensures, inr c.requires.in_bounds, long, same, same, omega arith, ap (λ (z : List ℕ). spelled g.E.Entry.links c.args.table.now c.args.entry ++ z) (drop_of_length-le (take (n - 0) c.args.out.now) (le_of_eq long)) ∙ append-nil (spelled g.E.Entry.links c.args.table.now c.args.entry))

pub loop-i-preserved : goal.loop-i-preserved
loop-i-preserved g c =
    let loop = c.loop-i in
    let up = step g.E.Entry.links c.args.table.now c.requires.backward loop.invariant.1 loop.invariant.0 c.loop-i-test.true in
    let x = c.letter.result in
    let rest = spelled g.E.Entry.links c.args.table.now c.parent-i.result in
    let same : rest ++ (x ∷ []) ≡ spelled g.E.Entry.links c.args.table.now loop.i =
    ap₂ (λ (p y : ℕ). spelled g.E.Entry.links c.args.table.now p ++ (y ∷ [])) c.parent-i.ensures c.letter.ensures ∙ sym up.word in
    let count : loop.free - 1 ≡ length rest = rw c.parent-i.ensures (omega (arith, up.count)) in (
      loop.invariant.0,
      rw c.parent-i.ensures up.up,
      search rules,
      loop.invariant.3,
      count,
      omega arith,
      ap (λ (z : List ℕ). rest ++ drop (loop.free - 1) (put_mid (loop.free - 1) (loop.free - (loop.free - 1)) loop.prefix z)) c.put_last.ensures
          ∙ ap (λ (z : List ℕ). rest ++ z) (put_back loop.prefix loop.free x (omega (arith, up.count)) (omega arith))
          ∙ sym (append_assoc rest (x ∷ []) (drop loop.free loop.prefix))
          ∙ ap (λ (z : List ℕ). z ++ drop loop.free loop.prefix) same ∙ loop.invariant.6,
    )

pub returns : goal.returns
returns g c =
    let loop = c.loop-i in
    let n = c.letters-n.result in
    let top = spelled_top g.E.Entry.links c.args.table.now (c.loop-i-test.false ∙ loop.invariant.0) in
    let word = spelled_word g.E.Entry.links c.args.table.now c.requires.backward c.args.entry c.requires.in_bounds in
    let none : loop.free ≡ 0 = loop.invariant.4 ∙ ap length top in
    let whole : loop.prefix ≡ spelled g.E.Entry.links c.args.table.now c.args.entry =
    sym (ap₂ (λ (w : List ℕ) (k : ℕ). w ++ drop k loop.prefix) top none) ∙ loop.invariant.6 in
    record { letters = c.letters-n.ensures; bytes = put_front n c.args.out.now loop.prefix (sym loop.invariant.2) ∙ ap (λ (w : List ℕ). over w c.args.out.now) (whole ∙ word) }
