use Rattle.octseq_text.proofs.str.builder.StrBuilder.try_push_display.Given as goal

abbrev pub ghosts-append_from : goal.ghosts-append_from
ghosts-append_from g a = record {
  before = g.Octets.AsOctets.content a.text.now;
  lender = a.text.ghost_name;
  borrows = g.Octets.AsOctets.borrows a.text.now;
}
