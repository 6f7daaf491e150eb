use Rattle.vsw_generate.proofs.Answer.{answer_written}
use Rattle.vsw_generate.proofs.frame.write_answer.Goals as goal

pub returns : goal.returns
returns c = answer_written c.args.ends.now c.port_of.result c.of.result c.of-2.result c.of-3.result c.of-4.result c.args.out.now c.write_frame.new.out c.write_encaps.new.out c.requires.room c.port_of.ensures c.of.ensures c.of-2.ensures c.of-3.ensures c.of-4.ensures c.write_frame.ensures c.write_encaps.ensures.written
