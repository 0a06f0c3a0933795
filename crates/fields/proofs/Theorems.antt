-- The statements of specs/Laws.antt. Assumes nothing.
use Rattle.varint.proofs.Theorems.{shorter}
use Rattle.fields.specs.Fields.{read_fields}
use Rattle.fields.specs.Laws.{FieldsWrittenReads, FieldsReadsWritten, is_out, FieldsSteady}
use Rattle.fields.proofs.Steady.{all_steady}
use Rattle.fields.proofs.AllTaken.{fields_taken}
use Rattle.fields.proofs.Back.{all_back}

pub written_reads : FieldsWrittenReads
written_reads fs ms sorted w s rest at h e =
    let b = all_back fs ms sorted w s rest at h e in
    (rw (b.reads, b.same), b.clean)

pub reads_written : FieldsReadsWritten
reads_written fs s at next vs h b e r = (fields_taken fs s at h vs next e).whole b r

pub fields_steady : FieldsSteady
fields_steady fs = (all_steady fs, shorter is_out (read_fields fs) (all_steady fs))
