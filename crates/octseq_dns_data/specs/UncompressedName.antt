-- Names without compression pointers, as in data of types later than RFC 1035: RFC 3597, 4.
use Rattle.std.specs.Prelude.{◌≡◌, ℕ, ◌≤◌, List, refl}
use Rattle.std.proofs.Common.{arith}
use Rattle.octseq.specs.Window.{Window}
use Rattle.octseq_dns_name.specs.Name.{Name, HasName, HasLabels, wire_length}
use Rattle.octseq_dns_name.specs.NameFormat.{NameFits, name_labels, one_named, onward_name, wire_has_labels}
use Rattle.octseq_dns_name.specs.Wire.{wire}
use Rattle.octseq_format.specs.Laws.{Relation, IsOne, IsOnward, IsReadBack, IsDelimited, back_of}

-- A name without pointers is at a window's position: its labels, of at most 255 octets in wire form; and the window
-- after it.
pub record IsUncompressedName (w : Window) (labels : List (List ℕ)) (v : Window) : Type 0 where
  pub has_labels : HasLabels w.position w labels 0 v
  pub short : wire_length labels ≤ 255

abbrev pub HasUncompressedName : Relation Name
HasUncompressedName w name v = (name.place ≡ w) × IsUncompressedName w name.labels v

-- ---- lemmas: proved below this line, so what the words mean is read above it

-- it is a name
pub named : (w v : Window) (name : Name) → HasUncompressedName w name v → HasName w name v
named w v name is = (is.0, record { pointers = 0; has_labels = is.1.has_labels; short = is.1.short; few = omega arith })

pub one_plain : IsOne HasUncompressedName
one_plain = record { same = λ w a b u v is other. one_named.same w a b u v (named w u a is) (named w v b other) }

pub onward_plain : IsOnward 1 HasUncompressedName
onward_plain = record {
  on = λ w a v ordered is. onward_name.on w a v ordered (named w v a is);
  less = λ w a v is. onward_name.less w a v (named w v a is);
}

pub delimited_plain : IsDelimited HasUncompressedName name_labels wire NameFits
delimited_plain = record {
  next = λ w labels more fits is. record {
    it = record { place = w; labels = labels };
    tells = refl;
    is = (refl, record { has_labels = wire_has_labels w.position w labels more fits.each is; short = fits.short });
  };
}

pub plain_read_back : IsReadBack HasUncompressedName name_labels wire NameFits
plain_read_back = back_of delimited_plain
