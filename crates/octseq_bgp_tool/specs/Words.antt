-- The names of commands, and how messages are read by them.
use Rattle.std.specs.Prelude.{Bool, not, if◌then◌else◌, ℕ, List, [], ◌++◌, codes}
use Rattle.octseq_bgp.specs.declared.session.SessionConfig.{SessionConfig}
use Rattle.octseq_bgp_tool.specs.declared.engine.Command.{Command}
use Rattle.octseq_bgp_tool.specs.declared.engine.Command.TheVariants.{Message, Stream, Rewrite, Mrt, Messages}
use Rattle.octseq_bgp_tool.specs.declared.options.Options.{Options}
use Rattle.octseq_mrt.specs.Bgp4Mp.{all_paths}

-- the word of an option, if it is set
abbrev pub option_word : Bool → List ℕ → List ℕ
option_word has word = if has then word else []

-- the options, each after a comma
abbrev pub words_of : Options → List ℕ
words_of o = option_word o.two_octet (codes ",two-octet") ++ option_word o.add_path (codes ",add-path")
    ++ option_word o.extended (codes ",extended")

-- the name of a command
abbrev pub command_name : Command → List ℕ
command_name (Message o) = codes "message" ++ words_of o
command_name (Stream o) = codes "stream" ++ words_of o
command_name (Rewrite o) = codes "rewrite" ++ words_of o
command_name Mrt = codes "mrt"
command_name Messages = codes "messages"

-- how messages are read by the options: with two-octet AS numbers, with path ids for all families, of up to 65,535
-- octets
abbrev pub session_of : Options → SessionConfig
session_of o = record {
  four_octet_asn = not o.two_octet;
  add_path = all_paths o.add_path;
  extended_message = o.extended;
}
