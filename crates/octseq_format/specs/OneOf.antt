-- One of several values.
use Rattle.std.specs.Prelude.{◌⊎◌}
use Rattle.std.proofs.Common.{inl, inr}
use Rattle.octseq_format.specs.declared.choice.OneOf2.{OneOf2}
use Rattle.octseq_format.specs.declared.choice.OneOf3.{OneOf3}
use Rattle.octseq_format.specs.declared.choice.OneOf4.{OneOf4}
use Rattle.octseq_format.specs.declared.choice.OneOf5.{OneOf5}
use Rattle.octseq_format.specs.declared.wide_choice.OneOf6.{OneOf6}
use Rattle.octseq_format.specs.declared.wide_choice.OneOf7.{OneOf7}
use Rattle.octseq_format.specs.declared.choice_of_eight.OneOf8.{OneOf8}

abbrev pub one_of_2 : {A B S1 S2 : Type 0} → (A → S1) → (B → S2) → OneOf2 A B
    → S1 ⊎ S2
one_of_2 a b (OneOf2.First x) = inl (a x)
one_of_2 a b (OneOf2.Second x) = inr (b x)

abbrev pub one_of_3 : {A B C S1 S2 S3 : Type 0} → (A → S1) → (B → S2) → (C → S3) → OneOf3 A B C
    → S1 ⊎ (S2 ⊎ S3)
one_of_3 a b c (OneOf3.First x) = inl (a x)
one_of_3 a b c (OneOf3.Second x) = inr (inl (b x))
one_of_3 a b c (OneOf3.Third x) = inr (inr (c x))

abbrev pub one_of_4 : {A B C D S1 S2 S3 S4 : Type 0} → (A → S1) → (B → S2) → (C → S3) → (D → S4) → OneOf4 A B C D
    → S1 ⊎ (S2 ⊎ (S3 ⊎ S4))
one_of_4 a b c d (OneOf4.First x) = inl (a x)
one_of_4 a b c d (OneOf4.Second x) = inr (inl (b x))
one_of_4 a b c d (OneOf4.Third x) = inr (inr (inl (c x)))
one_of_4 a b c d (OneOf4.Fourth x) = inr (inr (inr (d x)))

abbrev pub one_of_5 : {A B C D E S1 S2 S3 S4 S5 : Type 0} → (A → S1) → (B → S2) → (C → S3) → (D → S4) → (E → S5)
    → OneOf5 A B C D E
    → S1 ⊎ (S2 ⊎ (S3 ⊎ (S4 ⊎ S5)))
one_of_5 a b c d e (OneOf5.First x) = inl (a x)
one_of_5 a b c d e (OneOf5.Second x) = inr (inl (b x))
one_of_5 a b c d e (OneOf5.Third x) = inr (inr (inl (c x)))
one_of_5 a b c d e (OneOf5.Fourth x) = inr (inr (inr (inl (d x))))
one_of_5 a b c d e (OneOf5.Fifth x) = inr (inr (inr (inr (e x))))

abbrev pub one_of_6 : {A B C D E F S1 S2 S3 S4 S5 S6 : Type 0} → (A → S1) → (B → S2) → (C → S3) → (D → S4) → (E
    → S5) → (F → S6) → OneOf6 A B C D E F
    → S1 ⊎ (S2 ⊎ (S3 ⊎ (S4 ⊎ (S5 ⊎ S6))))
one_of_6 a b c d e f (OneOf6.First x) = inl (a x)
one_of_6 a b c d e f (OneOf6.Second x) = inr (inl (b x))
one_of_6 a b c d e f (OneOf6.Third x) = inr (inr (inl (c x)))
one_of_6 a b c d e f (OneOf6.Fourth x) = inr (inr (inr (inl (d x))))
one_of_6 a b c d e f (OneOf6.Fifth x) = inr (inr (inr (inr (inl (e x)))))
one_of_6 a b c d e f (OneOf6.Sixth x) = inr (inr (inr (inr (inr (f x)))))

abbrev pub one_of_7 : {A B C D E F G S1 S2 S3 S4 S5 S6 S7 : Type 0} → (A → S1) → (B → S2) → (C → S3) → (D → S4)
    → (E → S5) → (F → S6) → (G → S7) → OneOf7 A B C D E F G
    → S1 ⊎ (S2 ⊎ (S3 ⊎ (S4 ⊎ (S5 ⊎ (S6 ⊎ S7)))))
one_of_7 a b c d e f g (OneOf7.First x) = inl (a x)
one_of_7 a b c d e f g (OneOf7.Second x) = inr (inl (b x))
one_of_7 a b c d e f g (OneOf7.Third x) = inr (inr (inl (c x)))
one_of_7 a b c d e f g (OneOf7.Fourth x) = inr (inr (inr (inl (d x))))
one_of_7 a b c d e f g (OneOf7.Fifth x) = inr (inr (inr (inr (inl (e x)))))
one_of_7 a b c d e f g (OneOf7.Sixth x) = inr (inr (inr (inr (inr (inl (f x))))))
one_of_7 a b c d e f g (OneOf7.Seventh x) = inr (inr (inr (inr (inr (inr (g x))))))

abbrev pub one_of_8 : {A B C D E F G H S1 S2 S3 S4 S5 S6 S7 S8 : Type 0} → (A → S1) → (B → S2) → (C → S3) → (D
    → S4) → (E → S5) → (F → S6) → (G → S7) → (H → S8) → OneOf8 A B C D E F G H
    → S1 ⊎ (S2 ⊎ (S3 ⊎ (S4 ⊎ (S5 ⊎ (S6 ⊎ (S7 ⊎ S8))))))
one_of_8 a b c d e f g h (OneOf8.First x) = inl (a x)
one_of_8 a b c d e f g h (OneOf8.Second x) = inr (inl (b x))
one_of_8 a b c d e f g h (OneOf8.Third x) = inr (inr (inl (c x)))
one_of_8 a b c d e f g h (OneOf8.Fourth x) = inr (inr (inr (inl (d x))))
one_of_8 a b c d e f g h (OneOf8.Fifth x) = inr (inr (inr (inr (inl (e x)))))
one_of_8 a b c d e f g h (OneOf8.Sixth x) = inr (inr (inr (inr (inr (inl (f x))))))
one_of_8 a b c d e f g h (OneOf8.Seventh x) = inr (inr (inr (inr (inr (inr (inl (g x)))))))
one_of_8 a b c d e f g h (OneOf8.Eighth x) = inr (inr (inr (inr (inr (inr (inr (h x)))))))
