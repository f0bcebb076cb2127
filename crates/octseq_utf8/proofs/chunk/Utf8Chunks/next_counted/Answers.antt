use Rattle.std.proofs.Common.{◌≡◌, ℕ, ◌+◌, ◌-◌, ◌≤◌, List, [], length, take, drop, arith, ap, refl, length-take}
use Rattle.std.proofs.Common.{length-drop}
use Rattle.std.proofs.lemmas.Bool.Decides.{nat_tests}
use Rattle.std.proofs.lemmas.List.{nil_from_length}
use Rattle.octseq_utf8.specs.Fault.{fault_end}
use Rattle.octseq_utf8.specs.Parts.{Part, Splits}
use Rattle.octseq_utf8.specs.Reading.{parts_of}
use Rattle.octseq_utf8.proofs.Faults.{end_bounds, parts_at_fault, parts_well_formed}
use Rattle.octseq_utf8.proofs.ByChunk.{chunk_at_end}
use Rattle.octseq_utf8.proofs.Splitting.{only_parts, parts_nil}
use Rattle.octseq_utf8.proofs.chunk.Utf8Chunks.next_counted.Goals as goal

-- after the last octet there is none
nothing_after : (x : List ℕ) → take (length x - length x) (drop (length x) x) ≡ []
nothing_after x = nil_from_length _ (omega (arith, length-take (length x - length x) (drop (length x) x)))

-- the turns of all splittings, by those of the parts that are read
turned : (x after : List ℕ) (old new : ℕ) → new + length (parts_of after) ≤ old + length (parts_of x)
    → (parts rest : List Part) → Splits x parts → Splits after rest → new + length rest ≤ old + length parts
turned x after old new h parts rest s t = omega (arith, ap length (only_parts s), ap length (only_parts t))

pub last_chunk-requires : goal.last_chunk-requires
last_chunk-requires c = c.in-None.ensures.none.0 refl

pub after-self-inside-requires-clause-place : goal.after-self-inside-requires-clause-place
after-self-inside-requires-clause-place c = omega (arith, end_bounds _ _ c.in-Some.ensures.fault)

pub after-self-inside-requires-clause-end : goal.after-self-inside-requires-clause-end
after-self-inside-requires-clause-end c = (end_bounds _ _ c.in-Some.ensures.fault).1

pub chunk_to-requires : goal.chunk_to-requires
chunk_to-requires c = c.in-Some.ensures.fault

pub returns-then-is_empty-clause-turns : goal.returns-then-is_empty-clause-turns
returns-then-is_empty-clause-turns c = turned _ _ _ _ (omega arith)

pub returns-then-is_empty-clause-passed : goal.returns-then-is_empty-clause-passed
returns-then-is_empty-clause-passed c = omega arith

pub returns-in-None : goal.returns-in-None
returns-in-None c =
    let x : List ℕ = c.self.inside.rest.now in
    let good = c.in-None.ensures.none.0 refl in
    let empty = c.is_empty.ensures in
    rw (← c.self.view_is, nothing_after x)
    (record {
      gives = rw c.last_chunk.ensures
          (chunk_at_end x (λ none. grind (arith, nat_tests, empty, c.if-is_empty.false, ap length none)) good);
      turns = turned x _ _ _ (omega (arith, c.in-None.ensures.turns, parts_well_formed x good, ap length parts_nil));
      passed = omega (arith, c.in-None.ensures.passed);
      kept = omega (arith, c.in-None.ensures.passed);
    })

pub returns-in-Some : goal.returns-in-Some
returns-in-Some c =
    let x : List ℕ = c.self.inside.rest.now in
    let found = c.in-Some.ensures in
    rw (← c.self.view_is, c.after-self-inside.ensures)
    (record {
      gives = c.chunk_to.ensures;
      turns = turned x _ _ _ (omega (arith, found.turns_to_fault, parts_at_fault x c.in-Some.fault found.fault));
      passed = omega (arith, found.passed_to_fault, length-drop (fault_end x c.in-Some.fault) x);
      kept = omega (arith, found.passed_to_fault);
    })
