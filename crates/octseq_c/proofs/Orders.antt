-- An order that is stored in 32 bits is read back.
use Rattle.std.proofs.Common.{◌≡◌, ℤ, negsuc, pos, refl, sym, subst, to_z, of_z, w32}
use Rattle.std.specs.declared.cmp.Ordering.{Ordering}
use Rattle.std.specs.declared.cmp.Ordering.TheVariants.{Less, Equal, Greater}
use Rattle.octseq_c.specs.Order.{IsOrder}

pub stored : (order : Ordering) (n : ℤ) → IsOrder order n → IsOrder order (to_z w32 (of_z w32 n))
stored Less n is = subst (λ n. to_z w32 (of_z w32 n) ≡ negsuc 0) (sym is) refl
stored Equal n is = subst (λ n. to_z w32 (of_z w32 n) ≡ pos 0) (sym is) refl
stored Greater n is = subst (λ n. to_z w32 (of_z w32 n) ≡ pos 1) (sym is) refl
