use Rattle.ion_docs.proofs.WalkReaders.{built_answers}
use Rattle.ion_docs.proofs.doc_reader.DocReaderItems.step.Goals as goal

pub returns-clause-answers : goal.returns-clause-answers
returns-clause-answers c =
    built_answers c.args.self.now.walk c.step.new.self c.args.self.now.build c.step.new.build c.args.piece.now c.step.result c.step.ensures.setting
    c.step.ensures.leaves c.step.ensures.stands c.step.ensures.answers
