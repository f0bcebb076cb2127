use Rattle.std.proofs.Common.{◌++◌, codes}
use Rattle.std.proofs.KnownBytes.{Appends-trans}
use Rattle.octseq_cli.proofs.Writing.{front_after, front_of, on_ok}
use Rattle.octseq_cli.proofs.engine.write_unknown.Goals as goal

pub returns-in_err-write_all-clause-front : goal.returns-in_err-write_all-clause-front
returns-in_err-write_all-clause-front g c =
    front_of _ _ (codes "no command '") (c.args.word.now ++ (codes "'; " ++ c.args.usage.now)) c.write_all.ensures.front

pub returns-in_err-write_all-2-clause-front : goal.returns-in_err-write_all-2-clause-front
returns-in_err-write_all-2-clause-front g c =
    front_after _ _ _ (codes "no command '") (c.args.word.now ++ (codes "'; " ++ c.args.usage.now))
    c.in_ok-write_all.ensures.ok
    (front_of _ _ c.args.word.now (codes "'; " ++ c.args.usage.now)
    (rw c.as_bytes.ensures.value at c.write_all-2.ensures.front))

pub returns-in_err-write_all-3-clause-front : goal.returns-in_err-write_all-3-clause-front
returns-in_err-write_all-3-clause-front g c =
    front_after _ _ _ (codes "no command '") (c.args.word.now ++ (codes "'; " ++ c.args.usage.now))
    c.in_ok-write_all.ensures.ok
    (front_after _ _ _ c.args.word.now (codes "'; " ++ c.args.usage.now)
    (rw c.as_bytes.ensures.value at c.in_ok-write_all-2.ensures.ok)
    (front_of _ _ (codes "'; ") c.args.usage.now c.write_all-3.ensures.front))

pub returns-clause-ok : goal.returns-clause-ok
returns-clause-ok g c =
    let usage = c.as_bytes-2.ensures.value in
    on_ok c.write_all-4.result
    (λ last. Appends-trans _ _ _ (codes "no command '") (c.args.word.now ++ (codes "'; " ++ c.args.usage.now))
    c.in_ok-write_all.ensures.ok
    (Appends-trans _ _ _ c.args.word.now (codes "'; " ++ c.args.usage.now)
    (rw c.as_bytes.ensures.value at c.in_ok-write_all-2.ensures.ok)
    (Appends-trans _ _ _ (codes "'; ") c.args.usage.now c.in_ok-write_all-3.ensures.ok (rw usage at last))))
    c.write_all-4.ensures.ok

pub returns-clause-front : goal.returns-clause-front
returns-clause-front g c =
    front_after _ _ _ (codes "no command '") (c.args.word.now ++ (codes "'; " ++ c.args.usage.now))
    c.in_ok-write_all.ensures.ok
    (front_after _ _ _ c.args.word.now (codes "'; " ++ c.args.usage.now)
    (rw c.as_bytes.ensures.value at c.in_ok-write_all-2.ensures.ok)
    (front_after _ _ _ (codes "'; ") c.args.usage.now c.in_ok-write_all-3.ensures.ok
    (rw c.as_bytes-2.ensures.value at c.write_all-4.ensures.front)))
