use Rattle.std.proofs.Common.{◌∙◌, ap, length, sym, subst}
use Rattle.std.proofs.Math.Logic.{∥∥₁_map}
use Rattle.octseq_dns.specs.Writes.{ComposesMessage}
use Rattle.octseq_dns.proofs.Pushed.{header_written, headed_long}
use Rattle.octseq_dns.proofs.builder.SectionBuilder.set_header.Goals as goal

pub invariant_of-self : goal.invariant_of-self
invariant_of-self g c =
    let in' = c.self.inside in (
      ∥∥₁_map c.self.invariant.0 (λ w. (
        record w.0 { header = c.args.header },
        header_written g.T.Compressor.most w.0 in'.message.state c.put_header.new.self.state in'.header c.args.header
            in'.counts c.octets_of.result w.1 c.octets_of.ensures.fits c.octets_of.ensures.octets
            c.put_header.ensures.state,
      )),
      c.self.invariant.1,
    )

pub returns-clause-written : goal.returns-clause-written
returns-clause-written g c m is =
    let in' = c.self.inside in
    header_written g.T.Compressor.most m in'.message.state c.put_header.new.self.state in'.header c.args.header
    in'.counts c.octets_of.result
    (subst (λ v. ComposesMessage g.T.Compressor.most m v.state v.header v.counts) (sym c.self.view_is) is)
    c.octets_of.ensures.fits c.octets_of.ensures.octets c.put_header.ensures.state

pub returns-clause-len : goal.returns-clause-len
returns-clause-len g c =
    let in' = c.self.inside in
    headed_long g.T.Compressor.most in'.message.state c.put_header.new.self.state in'.header c.args.header in'.counts
    in'.counts g.S.Section.reaches c.octets_of.result c.self.invariant c.octets_of.ensures.octets
    c.put_header.ensures.state
    ∙ ap (λ v. length v.state.octets) c.self.view_is
