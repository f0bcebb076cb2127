use Rattle.std.proofs.Common.{[], true, false, ◌≡◌, ◌∙◌, refl}
use Rattle.std.proofs.KnownBytes.{Appends-nil}
use Rattle.octseq_cli.proofs.Answering.{answered_always, broke_always}
use Rattle.octseq_cli.specs.Run.{unknown_line}
use Rattle.octseq_cli.specs.declared.engine.TheConstants.{VERSION}
use Rattle.octseq_cli.specs.declared.request.Request.TheVariants.{Help, Version, Unknown}
use Rattle.octseq_cli.proofs.engine.engine.Goals as goal
use Rattle.octseq.proofs.Errors.{on_err}

pub returns-in_err-write_all-in-Help-clause-broke : goal.returns-in_err-write_all-in-Help-clause-broke
returns-in_err-write_all-in-Help-clause-broke g c =
    let help = g.C.Commands.said.help in
    let is : c.as_bytes.result.now ≡ help = c.as_bytes.ensures.value ∙ c.help.ensures in
    on_err c.from_residual.result record {
      request = Help;
      is_request = c.in-Help.ensures;
      breaks_off = broke_always help [] false true (λ input x e s is. (is.0, is.1))
          (rw is at c.write_all.ensures.front) ([], refl, Appends-nil (g.E.Write.contents c.args.errors.now));
    }

pub returns-in_ok-write_all-in-Help-clause-ran : goal.returns-in_ok-write_all-in-Help-clause-ran
returns-in_ok-write_all-in-Help-clause-ran g c =
    let help = g.C.Commands.said.help in
    let is : c.as_bytes.result.now ≡ help = c.as_bytes.ensures.value ∙ c.help.ensures in
    record {
      request = Help;
      is_request = c.in-Help.ensures;
      answers = answered_always help [] (λ input. (refl, refl, refl))
          (rw is at c.in_ok-write_all-in-Help.ensures.ok) (Appends-nil (g.E.Write.contents c.args.errors.now));
    }

pub returns-in_err-write_all-in-Version-clause-broke : goal.returns-in_err-write_all-in-Version-clause-broke
returns-in_err-write_all-in-Version-clause-broke g c =
    on_err c.from_residual-in_err-write_all-in-Version.result record {
      request = Version;
      is_request = c.in-Version.ensures;
      breaks_off = broke_always VERSION.now [] false true (λ input x e s is. (is.0, is.1))
          (rw c.as_bytes-in-Version.ensures.value at c.write_all-in-Version.ensures.front)
          ([], refl, Appends-nil (g.E.Write.contents c.args.errors.now));
    }

pub returns-in_ok-write_all-in-Version-clause-ran : goal.returns-in_ok-write_all-in-Version-clause-ran
returns-in_ok-write_all-in-Version-clause-ran g c = record {
  request = Version;
  is_request = c.in-Version.ensures;
  answers = answered_always VERSION.now [] (λ input. (refl, refl, refl))
      (rw c.as_bytes-in-Version.ensures.value at c.in_ok-write_all-in-Version.ensures.ok)
      (Appends-nil (g.E.Write.contents c.args.errors.now));
}

pub returns-in_err-write_unknown-in-Unknown-clause-broke : goal.returns-in_err-write_unknown-in-Unknown-clause-broke
returns-in_err-write_unknown-in-Unknown-clause-broke g c =
    let line = unknown_line g.C.Commands.said.usage c.args.word.now in
    on_err c.from_residual-in_err-write_unknown-in-Unknown.result record {
      request = Unknown;
      is_request = c.in-Unknown.ensures;
      breaks_off = broke_always [] line true false (λ input x e s is. (is.0, is.1))
          ([], refl, Appends-nil (g.W.Write.contents c.args.writer.now))
          (rw c.usage.ensures at c.write_unknown.ensures.front);
    }

pub returns-in_ok-write_unknown-in-Unknown-clause-ran : goal.returns-in_ok-write_unknown-in-Unknown-clause-ran
returns-in_ok-write_unknown-in-Unknown-clause-ran g c =
    let line = unknown_line g.C.Commands.said.usage c.args.word.now in
    record {
      request = Unknown;
      is_request = c.in-Unknown.ensures;
      answers = answered_always [] line (λ input. (refl, refl, refl))
          (Appends-nil (g.W.Write.contents c.args.writer.now))
          (rw c.usage.ensures at c.in_ok-write_unknown-in-Unknown.ensures.ok);
    }
