-- What a host is answered, in the words of the crate `method`.
pub mod HostAnswers
