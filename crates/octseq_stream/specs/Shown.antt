-- What errors print. Nothing is known of the text of an error of a reader or a writer.
use Rattle.std.specs.Prelude.{ℕ, List, Option, Some, None, codes}
use Rattle.octseq_stream.specs.declared.reader.FrameError.{FrameError}
use Rattle.octseq_stream.specs.declared.writer.WriteFrameError.{WriteFrameError}

abbrev pub frame_error_text : FrameError → Option (List ℕ)
frame_error_text FrameError.Short = Some (codes "unexpected end of input")
frame_error_text FrameError.Malformed = Some (codes "malformed frame")
frame_error_text FrameError.Memory = Some (codes "out of memory")
frame_error_text (FrameError.Read error) = None

abbrev pub write_frame_error_text : WriteFrameError → Option (List ℕ)
write_frame_error_text WriteFrameError.TooLong = Some (codes "message too long for a frame")
write_frame_error_text (WriteFrameError.Write error) = None
