-- Names of commands: each command has its own.
use Rattle.std.proofs.Common.{◌≡◌, ◌∙◌, ◌-◌, ℕ, Bool, true, false, List, drop, get_or, length, if◌then◌else◌}
use Rattle.std.proofs.Common.{nat_eq, refl, sym, ap}
use Rattle.octseq_bgp_tool.specs.Words.{command_name, words_of}
use Rattle.octseq_bgp_tool.specs.declared.engine.Command.{Command}
use Rattle.octseq_bgp_tool.specs.declared.engine.Command.TheVariants.{Message, Stream, Rewrite, Mrt, Messages}
use Rattle.octseq_bgp_tool.specs.declared.options.Options.{Options}

-- the options with these
abbrev pub options : Bool → Bool → Bool → Options
options two_octet add_path extended =
    record { two_octet = two_octet; add_path = add_path; extended = extended }

-- the words begin with `,t`
abbrev begins_with_t : List ℕ → Bool
begins_with_t words = nat_eq (get_or words 1 0) 116

-- the options of words: `,t` begins the first one, `,a` the second, and only the third ends with `d`
abbrev reported_by : List ℕ → Options
reported_by words =
    options (begins_with_t words)
    (nat_eq (get_or (if begins_with_t words then drop 10 words else words) 1 0) 97)
    (nat_eq (get_or words (length words - 1) 0) 100)

reported_again : (a b c : Bool) → reported_by (words_of (options a b c)) ≡ options a b c
reported_again false false false = refl
reported_again false false true = refl
reported_again false true false = refl
reported_again false true true = refl
reported_again true false false = refl
reported_again true false true = refl
reported_again true true false = refl
reported_again true true true = refl

-- the words of options don't begin with `s`
not_an_s : (a b c : Bool) → nat_eq (get_or (words_of (options a b c)) 0 0) 115 ≡ false
not_an_s false false false = refl
not_an_s false false true = refl
not_an_s false true false = refl
not_an_s false true true = refl
not_an_s true false false = refl
not_an_s true false true = refl
not_an_s true true false = refl
not_an_s true true true = refl

-- the command of a name: by its first letter, its second one, and what follows `message`
abbrev command_reported : List ℕ → Command
command_reported word =
    if nat_eq (get_or word 0 0) 115 then Stream (reported_by (drop 6 word))
    else (if nat_eq (get_or word 0 0) 114 then Rewrite (reported_by (drop 7 word))
    else (if nat_eq (get_or word 1 0) 114 then Mrt
    else (if nat_eq (get_or word 7 0) 115 then Messages else Message (reported_by (drop 7 word)))))

command_again : (c : Command) → command_reported (command_name c) ≡ c
command_again Mrt = refl
command_again Messages = refl
command_again (Stream o) = ap Stream (reported_again o.two_octet o.add_path o.extended)
command_again (Rewrite o) = ap Rewrite (reported_again o.two_octet o.add_path o.extended)
command_again (Message o) =
    ap (λ is. if is then Messages else Message (reported_by (words_of o))) (not_an_s o.two_octet o.add_path o.extended)
    ∙ ap Message (reported_again o.two_octet o.add_path o.extended)

-- no two commands have one name
pub same_name : (c d : Command) → command_name c ≡ command_name d → c ≡ d
same_name c d e = sym (command_again c) ∙ ap command_reported e ∙ command_again d
