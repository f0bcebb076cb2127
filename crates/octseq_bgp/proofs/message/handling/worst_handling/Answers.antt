use Rattle.std.proofs.Common.{◌≡◌, ◌<◌, [], ◌∷◌, true, false, length, get_or, refl, sym, ◌∙◌, subst, arith}
use Rattle.std.specs.Prelude.{max}
use Rattle.std.proofs.lemmas.List.{get_or-replicate, length-replicate, length-set}
use Rattle.octseq_bgp.specs.Handling.{rank, HasType, IsWorst}
use Rattle.octseq_bgp.specs.Lists.{attribute_of, attributes_left}
use Rattle.octseq_bgp.proofs.Marks.{marked}
use Rattle.octseq_bgp.proofs.message.handling.worst_handling.Goals as goal

pub attributes-init : goal.attributes-init
attributes-init g c = (
  [],
  λ k fits. (λ is. let none = get_or-replicate 256 k false false fits in absurd (cc), λ has. absurd has),
  λ n is. subst (IsWorst c.args.session.now c.args.external [] (attributes_left c.args.attributes))
      (let same : n ≡ max 0 n = omega arith in same) is,
  length-replicate 256 false,
)

pub attributes-preserved : goal.attributes-preserved
attributes-preserved g c =
    let so_far = c.attributes.invariant in
    let e = attribute_of c.in-Some.attribute in
    let steps = c.in-Some.ensures.steps.0 in
    let x = rank c.attribute_handling.result in
    let code = c.from-code.ensures in
    let again = c.attribute_handling.ensures in
    let s = c.args.session.now in
    let external = c.args.external in
    let bound : c.from-code.result < 256 = omega arith in
    let room : c.from-code.result < length c.attributes.seen = let long = so_far.3 in omega (arith, bound, long) in
    let marks = so_far.1 c.from-code.result bound in
    let worse = c.max-worst.ensures in (
      e ∷ so_far.0,
      marked c.attributes.seen so_far.0 e c.from-code.result code room so_far.1,
      λ n is.
          let all = so_far.2 (max x n) (subst (λ row. IsWorst s external so_far.0 row (max x n)) (sym steps) (
            get_or c.attributes.seen c.from-code.result false,
            (
              λ is. subst (HasType so_far.0) code (marks.0 is),
              λ has. marks.1 (subst (HasType so_far.0) (sym code) has),
            ),
            x,
            again,
            n,
            is,
            refl,
          )) in
          let same : max (rank c.attributes.worst) (max x n) ≡ max (rank c.max-worst.result) n = omega
          (arith, worse) in
          subst (IsWorst s external [] (attributes_left c.args.attributes)) same all,
      length-set c.attributes.seen c.from-code.result true ∙ so_far.3,
    )

pub returns : goal.returns
returns g c =
    let so_far = c.attributes.invariant in
    let none = c.in_default.ensures.steps.0.0 in
    let s = c.args.session.now in
    let row = attributes_left c.args.attributes in
    let all = so_far.2 0 (subst (λ more. IsWorst s c.args.external so_far.0 more 0) (sym none) refl) in
    let same : max (rank c.attributes.worst) 0 ≡ rank c.attributes.worst = omega arith in
    subst (IsWorst s c.args.external [] row) same all
