use Rattle.std.proofs.Common.{◌≡◌, List, Option, Some, None, [], refl}
use Rattle.std.specs.Prelude.{IfSome, unwrap_or}
use Rattle.std.proofs.KnownBytes.{Consumes-all}
use Rattle.octseq_tool.specs.declared.engine.Status.TheVariants.{Usage}
use Rattle.octseq_tool.proofs.engine.engine.Goals as goal

-- octets in place of others, if those are known
known : {A : Type 0} (given : Option (List A)) → IfSome given (λ octets. unwrap_or given [] ≡ octets)
known (Some octets) = refl
known None = tt

-- A word that names no command reads nothing, so any input will do.
pub returns-in_default-clause-ran : goal.returns-in_default-clause-ran
returns-in_default-clause-ran g c = record {
  command = None;
  input = unwrap_or (g.R.Read.remaining c.args.reader.now) [];
  output = c.as_bytes.result.now;
  named = c.in_default.ensures;
  whole = known (g.R.Read.remaining c.args.reader.now);
  made = c.as_bytes.ensures.value;
  written = c.in_ok-write_all.ensures.ok;
}

pub returns-in_err-write_all-clause-front : goal.returns-in_err-write_all-clause-front
returns-in_err-write_all-clause-front g c = λ _. record {
  command = None;
  input = unwrap_or (g.R.Read.remaining c.args.reader.now) [];
  output = c.as_bytes.result.now;
  status = Usage;
  front = c.write_all.ensures.front.0;
  named = c.in_default.ensures;
  whole = known (g.R.Read.remaining c.args.reader.now);
  made = c.as_bytes.ensures.value;
  begins = c.write_all.ensures.front.1;
  written = c.write_all.ensures.front.2;
}

pub returns-clause-ran : goal.returns-clause-ran
returns-clause-ran g c =
    let answer = c.in_ok-answer.ensures in
    record {
      command = Some c.in-Some.command;
      input = answer.ok.input;
      output = c.as_slice.result.now;
      named = c.in-Some.ensures;
      whole = Consumes-all _ _ _ [] _ answer.ok.consumed answer.end refl;
      made = rw c.as_slice.ensures.value answer.ok.made;
      written = c.in_ok-write_all-2.ensures.ok;
    }
