-- The order of the refusals before the walk, on small files: the model's, the rule's, and then 7. Assumes nothing.
use mathlib.Core.List.{[]}
use mathlib.Core.Path.{◌≡◌, refl}
use Prim.Native.Nat.{ℕ}
use Rattle.bits.specs.Bits.{any}
use Rattle.adding.specs.declared.reason.Reason.TheVariants.{NoInitialState, TooLittleLent}
use Rattle.records.specs.Spelled.{is_record, among, started}
use Rattle.records.specs.Faults.{again, fault, first_fault, good_records, head_of, judged, refusal}
use Rattle.loading.specs.Outset.{long_enough, outset_of}
use Rattle.search.specs.Ending.{Buffers}
use Rattle.inclusion.specs.declared.Answer.TheVariants.{Refused}
use Rattle.inclusion.specs.Answers.{none_counted, start_of, decided}
use Rattle.promises.specs.Samples.{I}

-- an empty file has no I, and S = 0 is out of range
pub order : (P : ℕ) (lent : Buffers)
    → (decided [] [] 0 P lent ≡ Refused (refusal NoInitialState 0 0) none_counted)
    × (decided (I 0) [] 0 P lent ≡ Refused (refusal NoInitialState 1 0) none_counted)
    × (decided (I 0) (I 0) 0 P lent ≡ Refused (refusal TooLittleLent 0 0) none_counted)
unfolding any is_record among started again fault first_fault good_records head_of judged long_enough outset_of start_of decided
order P lent = (refl, refl, refl)
