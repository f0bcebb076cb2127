-- A message to which nothing was pushed.
use Rattle.std.proofs.Common.{◌≡◌, ℕ, List, [], ◌++◌, map, sym, ◌∙◌, subst}
use Rattle.std.proofs.Math.Logic.{∥∥₁_elim}
use Rattle.std.proofs.lemmas.List.{nil_from_length}
use Rattle.std.specs.Coded.{Coded-set}
use Rattle.octseq_dns_compress.specs.State.{State, state_code, with_entries, with_header}
use Rattle.octseq_dns_message.specs.declared.header.Header.{Header}
use Rattle.octseq_dns_message.specs.declared.header.HeaderCounts.{HeaderCounts}
use Rattle.octseq_dns.specs.Contents.{Message, counts_of, entries_of, with_only_header, header_octets, question_entry}
use Rattle.octseq_dns.specs.Contents.{record_entry}
use Rattle.octseq_dns.specs.Writes.{IsBuilt, NothingYet}
use Rattle.octseq_dns.proofs.Pushed.{headed_anew}

no_entries : (m : Message) → NothingYet (counts_of m) → entries_of m ≡ []
no_entries m none = λ i. map question_entry (nil_from_length m.questions none.0 i)
    ++ map record_entry (nil_from_length m.answers none.1 i ++ (nil_from_length m.authorities none.2 i
    ++ nil_from_length m.additionals none.3 i))

-- it is its header
pub blank_is : {most : ℕ} {state : State} {header : Header} {counts : HeaderCounts}
    → IsBuilt most state header counts NothingYet → state ≡ with_only_header header counts
blank_is {most = most} {state = state} {header = header} {counts = counts} built =
    ∥∥₁_elim built.0 (Coded-set state_code state (with_only_header header counts)) (λ w.
    w.1.state_is ∙ (λ i. with_entries most (with_only_header (sym w.1.header_is i) (sym w.1.counts_are i))
    (no_entries w.0 (subst NothingYet w.1.counts_are built.1) i)))

-- so it can be begun with another header
pub begun_anew : {most : ℕ} {state new : State} {header : Header} {counts : HeaderCounts} {put : List ℕ}
    (other : Header) (now : HeaderCounts) → IsBuilt most state header counts NothingYet
    → put ≡ header_octets other now → new ≡ with_header state put
    → new ≡ with_only_header other now
begun_anew {header = header} {counts = counts} other now built put_is new_is =
    new_is ∙ (λ i. with_header (blank_is built i) (put_is i)) ∙ sym (headed_anew header other counts now)
