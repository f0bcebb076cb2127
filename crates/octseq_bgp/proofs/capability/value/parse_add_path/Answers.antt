use Rattle.std.proofs.Common.{subst, arith}
use Rattle.octseq.specs.Parser.{window}
use Rattle.octseq_bgp.specs.Capability.{ArePaths}
use Rattle.octseq_bgp.specs.FamilyTuple.{family_tuple}
use Rattle.octseq_bgp.specs.Items.{items_left}
use Rattle.octseq_bgp.proofs.Chunks.{one_filling, row_left}
use Rattle.octseq_bgp.proofs.capability.value.parse_add_path.Goals as goal

pub returns-then-not-are_paths-clause-malformed : goal.returns-then-not-are_paths-clause-malformed
returns-then-not-are_paths-clause-malformed g c = λ _ row is.
    let items = c.in_ok-items in
    let same = one_filling 4 family_tuple (omega arith) (window c.args.parser) row (items_left items.items) is.0.0
    items.ensures.items.0 in
    let are = c.are_paths.ensures.are.1 (subst ArePaths same is.1) in
    let not = c.if-not-are_paths.true in
    absurd (cc)

pub returns-then-not-are_paths-clause-turns : goal.returns-then-not-are_paths-clause-turns
returns-then-not-are_paths-clause-turns g c =
    let items = c.in_ok-items in
    let fills = items.ensures.items.0 in
    let all = row_left 4 family_tuple (window c.args.parser) fills.0 (items_left items.items) fills.1.0 in
    let took = c.are_paths.ensures.turns in
    omega (arith, all, took)

pub returns-clause-turns : goal.returns-clause-turns
returns-clause-turns g c =
    let items = c.in_ok-items in
    let fills = items.ensures.items.0 in
    let all = row_left 4 family_tuple (window c.args.parser) fills.0 (items_left items.items) fills.1.0 in
    let took = c.are_paths.ensures.turns in
    omega (arith, all, took)
