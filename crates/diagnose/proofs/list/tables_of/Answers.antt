use Rattle.diagnose.proofs.list.tables_of.Goals as goal

pub returns : goal.returns
returns c = record {
  told = c.requires.taxonomy;
  signed = c.requires.signatures;
  documented = c.in_ok-words.ensures.documented;
  unstated = c.in_ok-words.ensures.unstated c.requires.signatures;
  classes = c.in_ok-class_words.ensures;
  positions = c.in_ok-positions.ensures;
}
