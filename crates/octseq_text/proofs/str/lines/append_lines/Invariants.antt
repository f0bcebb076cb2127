use Rattle.octseq_text.proofs.str.lines.append_lines.Given as goal

abbrev pub ghosts-append_from : goal.ghosts-append_from
ghosts-append_from g a = record {
  before = g.B.AsOctets.content a.text.now;
  lender = a.text.ghost_name;
  borrows = g.B.AsOctets.borrows a.text.now;
}
