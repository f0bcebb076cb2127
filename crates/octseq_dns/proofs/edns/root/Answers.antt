use Rattle.std.proofs.Common.{[], ◌∷◌, refl, sym, ap, ◌∙◌, subst, arith}
use Rattle.octseq.specs.Window.{past, whole}
use Rattle.octseq_dns_name.specs.Name.{IsName}
use Rattle.octseq_dns_name.specs.NameFormat.{wire_has_labels}
use Rattle.octseq_dns.proofs.edns.root.Goals as goal

-- an octet of 0 is the root
root_is : IsName (whole (0 ∷ [])) [] (past 1 (whole (0 ∷ [])))
root_is = record {
  pointers = 0;
  has_labels = wire_has_labels 0 (whole (0 ∷ [])) [] [] tt refl;
  short = omega arith;
  few = omega arith;
}

pub unreachable-requires : goal.unreachable-requires
unreachable-requires c =
    c.in-Err.ensures.malformed refl [] _ (subst (λ w. IsName w [] (past 1 w))
    (sym (c.from_ref-parser.ensures.window ∙ ap whole c.as_slice.ensures)) root_is)
