-- `append` meets its contract: what is written is the tables with one entry more, and the chains go on. Assumes nothing.
use Rattle.std.proofs.Common.{◌∙◌, ap₂, ◌+◌, ℕ, get_or, set}
use native.Mathlib.Numerals.{add-one}
use borrow.Author.Rules.{rules}
use Rattle.offering.proofs.Appended.{keeps_same, none_count, none_written, more_count, written}
use Rattle.offering.proofs.Table.append.Goals as goal

pub returns-then-self : goal.returns-then-self
returns-then-self c = record { keeps = keeps_same _; count = none_count c.requires _ c.if-self.true; lent = none_written c.requires _ c.if-self.true; linked = λ is. absurd cc }

pub returns : goal.returns
returns c =
    let t = c.args.self.now in
    record {
      keeps = search rules;
      count = more_count c.requires _ c.if-self.false;
      lent = written c.requires _ c.if-self.false;
      linked = λ ok. ap₂ (λ (q k : ℕ). set (set t.chains.now (16 + t.n) (get_or t.chains.now q 0)) q k) (c.from-state.ensures ∙ c.link_state.ensures) (add-one t.n);
    }
