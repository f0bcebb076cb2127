-- What a call says of its result, where the result is known.
use Rattle.std.proofs.Common.{◌≡◌, Option, None, Some, Result, Ok, Err, refl}
use Rattle.std.specs.Prelude.{IfNone, IsNone, OnOk, IsOk}

pub if_none : {T : Type 0} (r : Option T) (P : Type 0) → IfNone r P → IsNone r → P
if_none None P is none = is
if_none (Some x) P is none = absurd (cc)

pub none_is : {T : Type 0} (r : Option T) → IsNone r → r ≡ None
none_is None none = refl
none_is (Some x) none = absurd (cc)

pub if_ok : {T E : Type 0} (r : Result T E) (P : Type 0) → OnOk r P → IsOk r → P
if_ok (Ok x) P is ok = is
if_ok (Err e) P is ok = absurd (cc)
