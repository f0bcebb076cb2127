use Rattle.std.proofs.Common.{◌≡◌, ℕ, ◌+◌, List, rules, [], ◌++◌, ap, sym, ◌∙◌, append_assoc, append-nil, arith, length}
use Rattle.std.proofs.Output.{has_written_append, has_written_of_eq}
use Rattle.std.specs.Fmt.{decimal}
use Rattle.octseq_bgp.specs.MessageText.{line}
use Rattle.octseq_bgp.specs.OctetsText.{spaced}
use Rattle.octseq_mrt.specs.Parsed.{peer_of, peers_left}
use Rattle.octseq_mrt.specs.RecordText.{peer_lines}
use Rattle.octseq_mrt.specs.Text.{peer_text}
use Rattle.std.specs.Prelude.{codes}
use Rattle.octseq_mrt.proofs.text.lines.write_peers.Goals as goal

pub loop-peer-init : goal.loop-peer-init
loop-peer-init g c = record {
  done = [];
  written = search rules;
  whole = ap (λ row. peer_lines 0 (peers_left row)) c.into_iter-peer-iterator.ensures.into_iter_gives;
  fits =
      let same = ap (λ row. length (peers_left row)) c.into_iter-peer-iterator.ensures.into_iter_gives in
      omega (arith, same, c.octets_left-most.ensures);
}

pub loop-peer-preserved : goal.loop-peer-preserved
loop-peer-preserved g c =
    let so_far = c.loop-peer.invariant in
    let n = c.loop-peer.number in
    let text : List ℕ = line (codes "peer") (decimal n ++ spaced (peer_text (peer_of c.in-Some.peer))) in
    let steps = c.in-Some.ensures.steps in
    record {
      done = so_far.done ++ text;
      written = λ plain. has_written_append _ _ _ _ _ _ (so_far.written plain) (search rules);
      whole = append_assoc so_far.done text (peer_lines (n + 1) (peers_left c.next.new.self))
          ∙ ap (λ row. so_far.done ++ peer_lines n row) (sym steps) ∙ so_far.whole;
      fits = omega (arith, ap length steps, so_far.fits);
    }

pub returns : goal.returns
returns g c = λ plain ok.
    let so_far = c.loop-peer.invariant in
    let all : so_far.done ≡ peer_lines 0 (peers_left c.args.peers) = sym (append-nil so_far.done)
    ∙ ap (λ row. so_far.done ++ peer_lines c.loop-peer.number row) (sym c.in-None.ensures.steps.0) ∙ so_far.whole in
    has_written_of_eq _ _ _ _ _ all (so_far.written plain)
