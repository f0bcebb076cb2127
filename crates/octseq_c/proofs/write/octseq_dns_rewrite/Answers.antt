use Rattle.std.proofs.Common.{length, arith, ap, sym, refl, inl, inr}
use Rattle.octseq_dns_message.proofs.Messages.{said_once}
use Rattle.octseq_c.proofs.OneRewriting.{moved_can, moved_contents, no_memory, not_both, one_rewriting, rewriting_of}
use Rattle.octseq_c.proofs.Puts.{copied_kept, copied_none, copied_status, not_reported, puts_copies, puts_none}
use Rattle.octseq_c.proofs.write.octseq_dns_rewrite.Goals as goal

-- ---- it was written

pub returns-in-Ok-rewrite_to-clause-puts : goal.returns-in-Ok-rewrite_to-clause-puts
returns-in-Ok-rewrite_to-clause-puts c =
    let made = c.in-Ok-rewrite_to.ensures.made in
    puts_copies (one_rewriting c.args.octets.now) _
    (rewriting_of c.in-Ok.ensures.message c.in-Ok-rewrite_to.ensures.immovable.1 made.0 made.1) made.3

pub returns-in-Ok-rewrite_to-clause-malformed : goal.returns-in-Ok-rewrite_to-clause-malformed
returns-in-Ok-rewrite_to-clause-malformed c =
    let made = c.in-Ok-rewrite_to.ensures.made in (
      λ e. absurd (copied_none 2 (omega arith) made.3 e),
      λ none. absurd (none (_, _, _, _, _, c.in-Ok.ensures.message)),
    )

pub returns-in-Ok-rewrite_to-clause-immovable : goal.returns-in-Ok-rewrite_to-clause-immovable
returns-in-Ok-rewrite_to-clause-immovable c =
    let made = c.in-Ok-rewrite_to.ensures.made in (
      λ e. absurd (copied_none 4 (omega arith) made.3 e),
      λ is. absurd (not_both c.args.octets.now _
          (rewriting_of c.in-Ok.ensures.message c.in-Ok-rewrite_to.ensures.immovable.1 made.0 made.1) is),
    )

pub returns-in-Ok-rewrite_to-clause-too_long : goal.returns-in-Ok-rewrite_to-clause-too_long
returns-in-Ok-rewrite_to-clause-too_long c = λ other is.
    let made = c.in-Ok-rewrite_to.ensures.made in (
      λ e. absurd (copied_none 5 (omega arith) made.3 e),
      λ long.
          let same = ap length (one_rewriting c.args.octets.now other _ is
          (rewriting_of c.in-Ok.ensures.message c.in-Ok-rewrite_to.ensures.immovable.1 made.0 made.1)) in
          let short = made.2 in
          absurd (omega (arith, long, same, short)),
    )

pub returns-in-Ok-rewrite_to-clause-only : goal.returns-in-Ok-rewrite_to-clause-only
returns-in-Ok-rewrite_to-clause-only c = elim (copied_status c.in-Ok-rewrite_to.ensures.made.3) [
  | inl ok ↦ inl ok
  | inr no_room ↦ inr (inl no_room)
]

pub returns-in-Ok-rewrite_to-clause-kept : goal.returns-in-Ok-rewrite_to-clause-kept
returns-in-Ok-rewrite_to-clause-kept c = copied_kept c.in-Ok-rewrite_to.ensures.made.3

-- ---- its data can't be moved

pub returns-in-Err-Immovable-clause-puts : goal.returns-in-Err-Immovable-clause-puts
returns-in-Err-Immovable-clause-puts c = puts_none 4 (omega arith) (one_rewriting c.args.octets.now)

pub returns-in-Err-Immovable-clause-too_long : goal.returns-in-Err-Immovable-clause-too_long
returns-in-Err-Immovable-clause-too_long c = λ made is.
    let same = said_once c.args.octets.now _ _ _ _ _ _ _ _ _ _ is.message c.in-Ok.ensures.message in
    absurd (c.in-Err-Immovable.ensures.immovable.0 (rw c.in-Err-Immovable.field-0-is tt)
    (moved_can same.2 same.3 same.4 is.moved))

-- ---- it is too long

pub returns-in-Err-Short-clause-puts : goal.returns-in-Err-Short-clause-puts
returns-in-Err-Short-clause-puts c = puts_none 5 (omega arith) (one_rewriting c.args.octets.now)

pub returns-in-Err-Short-clause-immovable : goal.returns-in-Err-Short-clause-immovable
returns-in-Err-Short-clause-immovable c =
    not_reported 5 4 (λ e. omega arith) (λ is.
    let same = said_once c.args.octets.now _ _ _ _ _ _ _ _ _ _ is.message c.in-Ok.ensures.message in
    rw c.in-Err-Short.field-0-is at (c.in-Err-Short.ensures.immovable.1
    (λ can. is.stays (moved_can (sym same.2) (sym same.3) (sym same.4) can))))

pub returns-in-Err-Short-clause-too_long : goal.returns-in-Err-Short-clause-too_long
returns-in-Err-Short-clause-too_long c = λ made is. (
  λ e.
      let same = said_once c.args.octets.now _ _ _ _ _ _ _ _ _ _ is.message c.in-Ok.ensures.message in
      let long = c.in-Err-Short.ensures.short (rw c.in-Err-Short.field-0-is tt) is.contents
      (moved_contents is.contents same.0 same.1 same.2 same.3 same.4 is.same) in
      omega (arith, long, ap length is.made_is),
  λ long. refl,
)

-- ---- nothing requests memory

pub unreachable-requires : goal.unreachable-requires
unreachable-requires c =
    absurd (no_memory c.in-Err-Memory.field-0 c.in-Err-Memory.field-0-is (λ ok. cc) c.in-Err-Memory.ensures.only)

-- ---- it isn't a message

pub returns-in-Err-clause-puts : goal.returns-in-Err-clause-puts
returns-in-Err-clause-puts c = puts_none 2 (omega arith) (one_rewriting c.args.octets.now)

pub returns-in-Err-clause-immovable : goal.returns-in-Err-clause-immovable
returns-in-Err-clause-immovable c =
    not_reported 2 4 (λ e. omega arith) (λ is. c.in-Err.ensures.malformed (_, _, _, _, _, is.message))

pub returns-in-Err-clause-too_long : goal.returns-in-Err-clause-too_long
returns-in-Err-clause-too_long c = λ made is. absurd (c.in-Err.ensures.malformed (_, _, _, _, _, is.message))
