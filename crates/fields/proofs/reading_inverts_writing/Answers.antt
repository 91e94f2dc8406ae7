use Rattle.fields.proofs.Laws as Laws
use Rattle.fields.proofs.reading_inverts_writing.Goals as goal

pub returns : goal.returns
returns c = record { one = Laws.one; back = Laws.back; reads = Laws.reads; breaks = Laws.breaks; wrote = Laws.wrote; walks = Laws.walks }
