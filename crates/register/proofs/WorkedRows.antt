-- The examples of the rows.
use Rattle.std.proofs.Common.{[], ◌∷◌, replicate, refl, arith}
use Rattle.register.specs.declared.fault.RecordFault.TheVariants.{Range, Name}
use Rattle.register.specs.First.{here, later}
use Rattle.register.specs.Records.{zone, point}
use Rattle.register.specs.RowExamples.{RowExamples}
use Rattle.register.proofs.Rows.{accepted_iff, first_fault_iff}

pub row_examples : RowExamples
row_examples = record {
  numbers = refl;
  highest_zone = (accepted_iff [] (zone 250 (replicate 40 0x41))).0 refl;
  highest_point = (accepted_iff (zone 250 (0x41 ∷ []) ∷ []) (point 1000 250 4)).0 refl;
  zone_above = (first_fault_iff [] (zone 251 (0x41 ∷ [])) Range).0 refl;
  point_above = (first_fault_iff (zone 250 (0x41 ∷ []) ∷ []) (point 1001 250 4) Range).0 refl;
  kind_above = (first_fault_iff (zone 250 (0x41 ∷ []) ∷ []) (point 1000 250 5) Range).0 refl;
  name_above = (first_fault_iff [] (zone 250 (replicate 41 0x41)) Name).0 refl;
  range_first = (first_fault_iff [] (zone 0 []) Range).0 refl;
  name_first = (first_fault_iff (zone 1 (0x41 ∷ []) ∷ []) (zone 1 []) Name).0 refl;
  zone_twice =
      λ before n name declared range named. later (λ f. f range)
      (later (λ f. f named) (here declared));
  point_twice =
      λ before n z kind declared range. later (λ f. f range) (later (λ f. f) (here declared));
  rule_missing =
      λ before z p missing range. later (λ f. f range)
      (later (λ f. f) (later (λ f. f) (here (λ both. missing both.0))));
  longest = λ before r e full. omega arith;
  longer = λ before r e. omega arith;
}
