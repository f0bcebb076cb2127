-- What contracts see of a window on octets that were read.
use Rattle.octseq.specs.declared.AsOctets.{Ghosts as OctetsGhosts}
use Rattle.octseq.specs.Parser.{window}
use Rattle.octseq.specs.Window.{Window as ParserWindow, rest}
use Rattle.octseq_format.specs.declared.window.Window.{Window}

-- the window of its parser
abbrev pub window_of : {R : Type 0} {o : OctetsGhosts R} → Window R o → ParserWindow
window_of here = window here.parser
