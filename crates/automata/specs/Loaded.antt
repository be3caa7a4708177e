-- What a loaded automaton stands for, and what a context held in two parts stands for. Assumes nothing.
use Rattle.std.specs.Prelude.{false, List, [], ℕ, get_or}
use Rattle.bits.specs.Bits.{bit}
use Rattle.bits.specs.Pairs.{pairs}
use Rattle.acceptance.specs.Lasso.{Aut}
use Rattle.acceptance.specs.Contexts.{Context}
use Rattle.automata.specs.declared.Head.{Head}
use Rattle.automata.specs.declared.Automaton.{Automaton}
use Rattle.automata.specs.declared.Context.{Context as Held}

-- the set at letter x and state p of a table of rows, by letter and then by state
unfoldable pub cell : List (List ℕ) → ℕ → ℕ → ℕ
cell table x p = get_or (get_or table x []) p 0

-- the automaton whose letter x leads from p to the members of `rows x p`; none of its transitions is itself accepting
unfoldable pub aut_of : (ℕ → ℕ → ℕ) → Head → Aut
aut_of rows head = record {
  start = head.start;
  step = λ p x q. bit (rows x p) q;
  final = λ q. bit head.accepting q;
  mark = λ p x q. false;
}

-- the automaton that a loaded one stands for
abbrev pub aut : Automaton (List (List ℕ)) → Aut
aut a = aut_of (cell a.table) a.head

-- the steps of a table alone: where the automaton starts and what it accepts does not matter
abbrev pub steps_of : List (List ℕ) → Aut
steps_of table = aut_of (cell table) (record { states = 0; start = 0; accepting = 0 })

-- the context that one held in two parts stands for, `packed` giving the number of a part's pairs
abbrev pub of : {A : Type 0} → (A → ℕ) → Held A → Context
of packed c = record { reach = packed c.reach; through = packed c.through }

-- parts of eight states, each a number
abbrev pub of_pairs : Held ℕ → Context
of_pairs = of (λ c. c)

abbrev pub as_pairs : Context → Held ℕ
as_pairs c = record { reach = c.reach; through = c.through }

-- the pairs whose row q stands at q of a list
unfoldable pub listed : ℕ → List ℕ → ℕ
listed n rows = pairs n (λ q. get_or rows q 0)

-- parts of sixteen states, each a list of rows
abbrev pub of_rows : Held (List ℕ) → Context
of_rows = of (listed 16)
